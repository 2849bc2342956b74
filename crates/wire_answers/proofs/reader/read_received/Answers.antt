use Rattle.std.proofs.Common.{ℕ, List, drop, sym, ap, subst, ◌∙◌, inl}
use Rattle.wire_answers.proofs.ReadLemmas.{cut_not_spelled, too_long_is, too_long_not_cut, read_on, read_within, further}
use Rattle.wire_answers.specs.declared.reader.AnswerRead.TheVariants as reads
use Rattle.wire_answers.specs.Reading.{ReadsAnswer}
use Rattle.wire_answers.proofs.reader.read_received.Goals as goal
use Rattle.wire_answers.proofs.reader.read_received.Goals.{in-Answer, in-More-2, in-Foreign}

pub returns-in-More-clause-reads : goal.returns-in-More-clause-reads
returns-in-More-clause-reads c =
    let bytes = c.bytes-bytes.result.now in
    subst (λ (t : List ℕ). ReadsAnswer c.args.ask.now t reads.More) c.bytes-bytes.ensures
    (inl c.in-More.ensures, cut_not_spelled c.args.ask.now bytes (inl c.in-More.ensures))

pub returns-in-TooLong-clause-reads : goal.returns-in-TooLong-clause-reads
returns-in-TooLong-clause-reads c =
    let bytes = c.bytes-bytes.result.now in
    subst (λ (t : List ℕ). ReadsAnswer c.args.ask.now t reads.Foreign) c.bytes-bytes.ensures
    (too_long_not_cut c.args.ask.now bytes c.in-TooLong.ensures, too_long_is c.args.ask.now bytes c.in-TooLong.ensures)

pub returns-after-branch-3 : goal.returns-after-branch-3
returns-after-branch-3 c =
    let bytes = c.bytes-bytes.result.now in
    let rest = c.after-rest.ensures ∙ ap (drop c.in-At.used) (sym c.bytes-bytes.ensures) in
    let read = read_on c.args.ask.now bytes c.in-At.end c.in-At.used c.in-At.ensures c.in_ok-first-in-At.first c.in_ok-first-in-At.ensures c.after-rest.result rest c.in_ok-answer-in-At.field-0 c.match-branch-3.result c.in_ok-answer-in-At.ensures in
    let held : ReadsAnswer c.args.ask.now bytes c.match-branch-3.result =
    elim c.match-branch-3.branch [
      | in-Answer w ↦ read (w.result-is ∙ ap (further c.in-At.used) (sym w.in-Answer.is))
      | in-More-2 w ↦ read (w.result-is ∙ ap (further c.in-At.used) (sym w.in-More-2.is))
      | in-Foreign w ↦ read (w.result-is ∙ ap (further c.in-At.used) (sym w.in-Foreign.is))
    ] in
    let is : ReadsAnswer c.args.ask.now c.args.received.now c.match-branch-3.result = subst (λ (t : List ℕ). ReadsAnswer c.args.ask.now t c.match-branch-3.result) c.bytes-bytes.ensures held in
    record { reads = is; within = read_within c.args.ask.now c.args.received.now c.match-branch-3.result is }
