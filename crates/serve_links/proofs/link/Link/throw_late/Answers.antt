use Rattle.std.proofs.Common.{◌≡◌, ℕ, Some, refl, ap, ◌∙◌}
use Rattle.std.specs.Prelude.{Result, Err}
use Rattle.serve_links.specs.declared.calls.calls.Left.{Left}
use Rattle.serve_links.specs.declared.calls.calls.Left.TheVariants as lefts
use Rattle.serve_links.specs.declared.link.Link.{Link}
use Rattle.serve_links.specs.Story.{line_of}
use Rattle.serve_links.proofs.LinkGoes.{quiet, line_keeps, line_forgets, line_then}
use Rattle.serve_links.proofs.LateGoes.{line_still}
use Rattle.serve_links.proofs.link.Link.throw_late.Goals as goal

as_foreign : (read : Result ℕ Left) (left : Left) → read ≡ Err left → Some left ≡ Some lefts.NoAnswer → read ≡ Err lefts.NoAnswer
as_foreign read left is same = cc

pub loop-init : goal.loop-init
loop-init c = record { goes = λ at core h. line_still c.args.self.now; told = c.requires }

pub throw_first-requires : goal.throw_first-requires
throw_first-requires c = c.loop.invariant.told

pub loop-preserved : goal.loop-preserved
loop-preserved c = record { goes = λ at core h. line_then (c.loop.invariant.goes at core h) (c.throw_first.ensures.goes at core h); told = c.throw_first.ensures.told }

pub returns-then-not-awaits_late : goal.returns-then-not-awaits_late
returns-then-not-awaits_late c = record { goes = λ at core h. line_still c.args.self.now; over = λ is. c.awaits_late.ensures.none c.if-not-awaits_late.true; foreign = λ is. absurd cc; told = c.requires }

pub returns-in-Err-clause-goes : goal.returns-in-Err-clause-goes
returns-in-Err-clause-goes c = λ at core h. line_then (line_then (c.loop.invariant.goes at core h) (c.throw_first.ensures.goes at core h)) (line_keeps (quiet h) refl)

pub returns-in-Err-clause-foreign : goal.returns-in-Err-clause-foreign
returns-in-Err-clause-foreign c = λ is. c.throw_first.ensures.foreign (as_foreign c.throw_first.result c.in-Err.left c.in-Err.is is)

pub returns-then-awaits_late : goal.returns-then-awaits_late
returns-then-awaits_late c = record { goes = c.loop.invariant.goes; over = λ is. absurd cc; foreign = λ is. absurd cc; told = c.loop.invariant.told }

pub returns : goal.returns
returns c = record {
  goes = λ at core h. line_then (c.loop.invariant.goes at core h) (line_forgets c.loop.self c.come_back.new.self (ap (λ (z : Link). z.lost) c.come_back.ensures) (ap line_of c.come_back.ensures));
  over = λ is. ap (λ (z : Link). z.late.items) c.come_back.ensures ∙ c.awaits_late-2.ensures.none c.if-awaits_late.false;
  foreign = λ is. absurd cc;
  told = ap (λ (z : Link). z.awaits_dialect) c.come_back.ensures ∙ c.loop.invariant.told;
}
