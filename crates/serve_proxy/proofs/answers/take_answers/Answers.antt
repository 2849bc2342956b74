use Rattle.std.proofs.Common.{List, refl, sym, ap, ◌∙◌, subst}
use Rattle.serve_wire.proofs.Steps.{untouched}
use Rattle.serve_links.specs.declared.link.Link.{Link}
use Rattle.serve_links.specs.declared.calls.calls.SentCall.{SentCall}
use Rattle.serve_links.specs.Settled.{HoldsForeign}
use Rattle.serve_links.specs.Story.{server_and_opened}
use Rattle.serve_links.proofs.Foreign.{line_foreign}
use Rattle.serve_links.proofs.LinkGoes.{line_keeps, line_then}
use Rattle.serve_proxy.proofs.Linking.{settled, answers_tried}
use Rattle.serve_proxy.proofs.GivenUp.{goes_as, vain_goes}
use Rattle.serve_proxy.proofs.answers.take_answers.Goals as goal

pub returns-in_default : goal.returns-in_default
returns-in_default c = record { goes = λ at h. line_keeps (λ d. untouched d h) refl; ends = λ j. refl }

pub returns-in-NoMemory : goal.returns-in-NoMemory
returns-in-NoMemory c =
    let x = c.args.link.now in
    let k = c.in-Some.conn.now in
    let d = c.settle_held-answers.new.conn in
    record {
      goes = λ at h. goes_as c.put_off.ensures.none (line_then (settled x c.has_read-has_failed.new.self k d c.settle_held-answers.new.calls.sent.items (sym c.in-Some.ensures.value) c.requires.told c.requires.alone (ap (λ (z : Link). z.conn) c.has_read-has_failed.ensures.rest) (ap server_and_opened c.has_read-has_failed.ensures.rest) (answers_tried x c.has_read-has_failed.new.self c.settle_held-answers.new.calls.sent.items c.is_any.result c.settle_held-answers.result.has_settled c.has_read-has_failed.ensures.answered c.has_read-has_failed.ensures.vain c.is_any.ensures c.settle_held-answers.ensures.none) (ap (λ (z : Link). z.waiting) c.has_read-has_failed.ensures.rest) (ap (λ (z : Link). z.awaits_dialect) c.has_read-has_failed.ensures.rest) (ap (λ (z : Link). z.dialect) c.has_read-has_failed.ensures.rest) (ap (λ (z : Link). z.late.items) c.has_read-has_failed.ensures.rest) (ap (λ (z : Link). z.calls.sent.items) c.has_read-has_failed.ensures.rest) c.settle_held-answers.ensures.rest c.settle_held-answers.ensures.settled) (line_keeps (λ d. untouched d h) c.put_off.ensures.line));
      ends = c.settle_held-answers.ensures.ends;
    }

pub returns-in-Begun : goal.returns-in-Begun
returns-in-Begun c =
    let x = c.args.link.now in
    let k = c.in-Some.conn.now in
    let d = c.settle_held-answers.new.conn in
    record {
      goes = λ at h. vain_goes c.has_read-has_failed.result c.vain.result c.vain.ensures c.has_read-has_failed.ensures.failed (settled x c.has_read-has_failed.new.self k d c.settle_held-answers.new.calls.sent.items (sym c.in-Some.ensures.value) c.requires.told c.requires.alone (ap (λ (z : Link). z.conn) c.has_read-has_failed.ensures.rest) (ap server_and_opened c.has_read-has_failed.ensures.rest) (answers_tried x c.has_read-has_failed.new.self c.settle_held-answers.new.calls.sent.items c.is_any.result c.settle_held-answers.result.has_settled c.has_read-has_failed.ensures.answered c.has_read-has_failed.ensures.vain c.is_any.ensures c.settle_held-answers.ensures.none) (ap (λ (z : Link). z.waiting) c.has_read-has_failed.ensures.rest) (ap (λ (z : Link). z.awaits_dialect) c.has_read-has_failed.ensures.rest) (ap (λ (z : Link). z.dialect) c.has_read-has_failed.ensures.rest) (ap (λ (z : Link). z.late.items) c.has_read-has_failed.ensures.rest) (ap (λ (z : Link). z.calls.sent.items) c.has_read-has_failed.ensures.rest) c.settle_held-answers.ensures.rest c.settle_held-answers.ensures.settled);
      ends = c.settle_held-answers.ensures.ends;
    }

pub returns-in-NoAnswer : goal.returns-in-NoAnswer
returns-in-NoAnswer c =
    let x = c.args.link.now in
    let k = c.in-Some.conn.now in
    let y = c.has_read-has_failed.new.self in
    let d = c.settle_held-answers.new.conn in
    let holds : HoldsForeign y.calls.sent.items d.held.items c.settle_held-answers.new.core =
    subst (λ (l : List SentCall). HoldsForeign l d.held.items c.settle_held-answers.new.core) (sym (ap (λ (z : Link). z.calls.sent.items) c.has_read-has_failed.ensures.rest)) (c.settle_held-answers.ensures.foreign c.in-NoAnswer.is) in
    record {
      goes = λ at h. line_foreign y d (ap (λ (z : Link). z.conn) c.has_read-has_failed.ensures.rest) (ap (λ (z : Link). z.awaits_dialect) c.has_read-has_failed.ensures.rest ∙ c.requires.told) (ap (λ (z : Link). z.late.items) c.has_read-has_failed.ensures.rest ∙ c.requires.alone) holds (settled x c.has_read-has_failed.new.self k d c.settle_held-answers.new.calls.sent.items (sym c.in-Some.ensures.value) c.requires.told c.requires.alone (ap (λ (z : Link). z.conn) c.has_read-has_failed.ensures.rest) (ap server_and_opened c.has_read-has_failed.ensures.rest) (answers_tried x c.has_read-has_failed.new.self c.settle_held-answers.new.calls.sent.items c.is_any.result c.settle_held-answers.result.has_settled c.has_read-has_failed.ensures.answered c.has_read-has_failed.ensures.vain c.is_any.ensures c.settle_held-answers.ensures.none) (ap (λ (z : Link). z.waiting) c.has_read-has_failed.ensures.rest) (ap (λ (z : Link). z.awaits_dialect) c.has_read-has_failed.ensures.rest) (ap (λ (z : Link). z.dialect) c.has_read-has_failed.ensures.rest) (ap (λ (z : Link). z.late.items) c.has_read-has_failed.ensures.rest) (ap (λ (z : Link). z.calls.sent.items) c.has_read-has_failed.ensures.rest) c.settle_held-answers.ensures.rest c.settle_held-answers.ensures.settled);
      ends = c.settle_held-answers.ensures.ends;
    }
