use Rattle.std.proofs.Common.{ℕ, ◌+◌, List, take, ap, sym, subst, ◌∙◌}
use Rattle.mc_types.specs.declared.answer.Answer.TheVariants as answers
use Rattle.wire_answers.specs.declared.line_kinds.FirstLine.TheVariants.{Hit}
use Rattle.wire_answers.specs.declared.reader.AnswerRead.TheVariants as reads
use Rattle.wire_answers.specs.Reading.{ReadsAfter, FollowsLine}
use Rattle.wire_answers.proofs.ReadLemmas.{bad_hit, not_cut_hit, hit_there}
use Rattle.wire_answers.proofs.reader.hit_after.Goals as goal

pub returns-in-Bad : goal.returns-in-Bad
returns-in-Bad c =
    let bytes = c.bytes-bytes.result.now in
    subst (λ (t : List ℕ). ReadsAfter (Hit c.args.hit) t reads.Foreign) c.bytes-bytes.ensures
    (not_cut_hit c.args.hit bytes c.in-Bad.ensures.0, bad_hit c.args.hit bytes c.if-bytes-hit.false c.in-Bad.ensures.1)

pub returns-in_ok-data-in-Whole : goal.returns-in_ok-data-in-Whole
returns-in_ok-data-in-Whole c =
    let bytes = c.bytes-bytes.result.now in
    subst (λ (t : List ℕ). FollowsLine (Hit c.args.hit) t (answers.Hit c.args.hit.flags c.in_ok-data-in-Whole.field-0 c.args.hit.cas) (c.args.hit.len + c.in-Whole.used)) c.bytes-bytes.ensures
    (hit_there c.args.hit bytes c.if-bytes-hit.false c.in-Whole.used c.in-Whole.ensures c.in_ok-data-in-Whole.field-0 (c.in_ok-data-in-Whole.ensures ∙ ap (take c.args.hit.len) (sym c.bytes-bytes.ensures)))
