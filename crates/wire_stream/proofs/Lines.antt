-- Where an answer to `mn` is not, and never will be.
use Rattle.std.proofs.Common.{◌≡◌, ℕ, List, ◌++◌, Option, Some, None, take, sym, ap, ◌∙◌}
use Rattle.text_words.specs.Line.{IsOpen, IsTooLong, TakesLine}
use Rattle.text_words.proofs.Stays.{too_long_no_line, taken_only}
use Rattle.mc_types.specs.declared.ask.Dialect.{Dialect}
use Rattle.wire_answers.proofs.EndLemmas.{too_long_not_open, line_not_open}
use Rattle.wire_stream.specs.Learning.{line_dialect, IsDialectLine}

pub long_is_foreign : (bytes : List ℕ) → IsTooLong bytes → (¬ IsOpen bytes) × ((more : List ℕ) (dialect : Dialect) (used : ℕ) → ¬ IsDialectLine (bytes ++ more) dialect used)
long_is_foreign bytes h = (too_long_not_open bytes h, λ more dialect used e. too_long_no_line bytes more e.text e.rest h e.line)

none_is : (o : Option Dialect) (dialect : Dialect) → o ≡ None → o ≡ Some dialect → ⊥
none_is o dialect none some = let e : ◌≡◌ {A = Option Dialect} None (Some dialect) = sym none ∙ some in cc

pub other_is_foreign : (bytes : List ℕ) (end used : ℕ) → TakesLine bytes end used → line_dialect (take end bytes) ≡ None → (¬ IsOpen bytes) × ((more : List ℕ) (dialect : Dialect) (used : ℕ) → ¬ IsDialectLine (bytes ++ more) dialect used)
other_is_foreign bytes end used t none =
    (line_not_open bytes end used t, λ more dialect u e. none_is (line_dialect (take end bytes)) dialect none (sym (ap line_dialect (taken_only bytes more e.text e.rest end used t e.line).0) ∙ e.says))
