use Rattle.std.proofs.Common.{Some, refl, ap, ◌∙◌}
use Rattle.serve_wire.proofs.Steps.{untouched}
use Rattle.serve_links.specs.declared.calls.calls.Left.{Left}
use Rattle.serve_links.specs.Story.{line_of}
use Rattle.serve_links.proofs.LinkGoes.{line_then, line_learns, line_keeps}
use Rattle.serve_links.proofs.Foreign.{foreign_goes}
use Rattle.serve_proxy.proofs.Linking.{line_vain}
use Rattle.serve_proxy.proofs.GivenUp.{goes_as, vain_goes}
use Rattle.serve_proxy.proofs.answers.take_said.Goals as goal

pub returns-then-not-learn : goal.returns-then-not-learn
returns-then-not-learn c = record {
  goes = λ at h. foreign_goes (c.learn.ensures.foreign c.if-not-learn.true) (line_learns c.args.link.now c.learn.new.self c.learn.result c.learn.ensures.learns);
  ends = λ j. refl;
}

pub returns-then-awaits_greeting : goal.returns-then-awaits_greeting
returns-then-awaits_greeting c = record {
  goes = λ at h.
      vain_goes c.has_read.result c.vain.result c.vain.ensures c.has_read.ensures.failed
      (line_then (line_learns c.args.link.now c.learn.new.self c.learn.result c.learn.ensures.learns) (line_keeps (λ d. untouched d h) (line_vain c.learn.new.self c.has_read.new.self (ap line_of c.has_read.ensures.rest) (c.has_read.ensures.vain refl))));
  ends = λ j. refl;
}

pub returns-in-Begun : goal.returns-in-Begun
returns-in-Begun c = record {
  goes = λ at h. line_then (line_learns c.args.link.now c.learn.new.self c.learn.result c.learn.ensures.learns) (c.throw_late.ensures.goes at c.args.core.now h);
  ends = λ j. refl;
}

pub returns-in-NoAnswer : goal.returns-in-NoAnswer
returns-in-NoAnswer c = record {
  goes = λ at h.
      foreign_goes (c.throw_late.ensures.foreign (c.in-Some.is ∙ ap (λ (l : Left). Some l) c.in-NoAnswer.is))
      (line_then (line_learns c.args.link.now c.learn.new.self c.learn.result c.learn.ensures.learns) (c.throw_late.ensures.goes at c.args.core.now h));
  ends = λ j. refl;
}

pub returns-in-NoMemory : goal.returns-in-NoMemory
returns-in-NoMemory c = record {
  goes = λ at h. goes_as c.put_off.ensures.none (line_then (line_then (line_learns c.args.link.now c.learn.new.self c.learn.result c.learn.ensures.learns) (c.throw_late.ensures.goes at c.args.core.now h)) (line_keeps (λ d. untouched d h) c.put_off.ensures.line));
  ends = λ j. refl;
}

pub returns : goal.returns
returns c = record {
  goes = λ at h. line_then (line_then (line_learns c.args.link.now c.learn.new.self c.learn.result c.learn.ensures.learns) (c.throw_late.ensures.goes at c.args.core.now h)) (c.take_answers.ensures.goes at h);
  ends = c.take_answers.ensures.ends;
}
