-- The bytes of answers. Source: mcgate's own.
use Rattle.std.specs.Prelude.{ℕ, List, ◌∷◌}
use Rattle.watch_admin.specs.declared.control.answers.Ruling.{Ruling}
use Rattle.watch_admin.specs.declared.control.answers.Ruling.TheVariants as verdicts

-- the digits 0 to 3, as exit statuses are
abbrev pub digit_of : Ruling → ℕ
digit_of verdicts.Done = 48
digit_of verdicts.Refused = 49
digit_of verdicts.Unknown = 50
digit_of verdicts.Failed = 51

-- the digit, the end of a line, and the text
abbrev pub control_answer : Ruling → List ℕ → List ℕ
control_answer verdict text = digit_of verdict ∷ 10 ∷ text
