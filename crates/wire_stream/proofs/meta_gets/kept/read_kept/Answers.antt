use Rattle.std.proofs.Common.{◌≡◌, Option, Some, sym, ◌∙◌, subst, IfOk}
use Rattle.mc_types.specs.declared.ask.Ask.{Ask}
use Rattle.wire_answers.specs.Reading.{ReadsAnswer}
use Rattle.wire_stream.proofs.meta_gets.kept.read_kept.Goals as goal

pub returns-clause-reads : goal.returns-clause-reads
returns-clause-reads c =
    subst (λ form. IfOk c.read_received.result (ReadsAnswer form c.args.received.now)) (same_form (sym c.in-Some.is ∙ c.in_ok-set_form.ensures.ok)) c.read_received.ensures.reads
  where
    same_form : {x y : Ask} → ◌≡◌ {A = Option Ask} (Some x) (Some y) → x ≡ y
    same_form e = cc
