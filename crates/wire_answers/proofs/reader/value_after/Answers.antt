use Rattle.std.proofs.Common.{◌≡◌, ℕ, ◌+◌, List, Some, false, true, take, ap, sym, subst, ◌∙◌}
use Rattle.mc_types.specs.declared.answer.Answer.TheVariants as answers
use Rattle.mc_types.specs.declared.answer.Code.TheVariants.{Va}
use Rattle.wire_answers.specs.Told.{fields_told}
use Rattle.wire_answers.specs.declared.line_kinds.FirstLine.TheVariants.{Value}
use Rattle.wire_answers.specs.declared.reader.AnswerRead.TheVariants as reads
use Rattle.wire_answers.specs.Reading.{is_data, ReadsAfter, FollowsLine}
use Rattle.wire_answers.proofs.ReadLemmas.{bad_value, no_data, not_cut_value, there_not_cut, value_there}
use Rattle.wire_answers.proofs.reader.value_after.Goals as goal

pub returns-in-Bad : goal.returns-in-Bad
returns-in-Bad c =
    let bytes = c.bytes-bytes.result.now in
    subst (λ (t : List ℕ). ReadsAfter (Value c.args.line) t reads.Foreign) c.bytes-bytes.ensures
    (not_cut_value c.args.line bytes c.in-Bad.ensures.0, bad_value c.args.line bytes c.if-bytes-line.false c.in-Bad.ensures.1)

pub returns-then-not-is_data : goal.returns-then-not-is_data
returns-then-not-is_data c =
    let bytes = c.bytes-bytes.result.now in
    let isnt : is_data c.args.line.is_number (take c.args.line.len bytes) ≡ false = cc in
    subst (λ (t : List ℕ). ReadsAfter (Value c.args.line) t reads.Foreign) c.bytes-bytes.ensures
    (there_not_cut c.args.line bytes c.in-Whole.ensures.0, no_data c.args.line bytes c.if-bytes-line.false isnt)

pub returns-in_ok-data-in-Whole : goal.returns-in_ok-data-in-Whole
returns-in_ok-data-in-Whole c =
    let bytes = c.bytes-bytes.result.now in
    let is : is_data c.args.line.is_number (take c.args.line.len bytes) ≡ true = cc in
    let body : c.in_ok-data-in-Whole.field-0 ≡ take c.args.line.len bytes = c.in_ok-data-in-Whole.ensures ∙ ap (take c.args.line.len) (sym c.bytes-bytes.ensures) in
    let fields = c.fields-fields.ensures ∙ ap (λ (t : List ℕ). fields_told c.args.line.told (Some t)) body in
    subst (λ (t : List ℕ). FollowsLine (Value c.args.line) t (answers.Meta Va c.fields-fields.result) (c.args.line.len + c.in-Whole.used)) c.bytes-bytes.ensures
    (value_there c.args.line bytes c.if-bytes-line.false c.in-Whole.ensures.0 is c.fields-fields.result c.in-Whole.used fields c.in-Whole.ensures.1)
