-- Which dialects a server speaks, by its answer to `mn`. Source: memcached's protocol.txt, "Meta No-Op" and "Error strings".
use Rattle.std.specs.Prelude.{◌≡◌, ℕ, ◌+◌, List, ◌++◌, Option, Some, None, length, codes, if◌then◌else◌}
use Rattle.std.specs.Str.{bytes_eq}
use Rattle.text_words.specs.Line.{IsLine, IsOpen, without_cr}
use Rattle.mc_types.specs.declared.ask.Dialect.{Dialect}
use Rattle.mc_types.specs.declared.ask.Dialect.TheVariants.{Classic, Meta}
use Rattle.wire_stream.specs.declared.meta_gets.dialect.DialectRead.{DialectRead}
use Rattle.wire_stream.specs.declared.meta_gets.dialect.DialectRead.TheVariants as reads

-- what a line says: `MN` that both dialects are spoken, `ERROR` that the classic one alone is
abbrev pub line_dialect : List ℕ → Option Dialect
line_dialect text = if bytes_eq text (codes "MN") then Some Meta else if bytes_eq text (codes "ERROR") then Some Classic else None

-- the bytes begin with a line that tells which dialects are spoken, of so many bytes
pub record IsDialectLine (bytes : List ℕ) (dialect : Dialect) (used : ℕ) : Type 0 where
  pub text : List ℕ
  pub rest : List ℕ
  pub line : IsLine bytes text rest
  pub says : line_dialect (without_cr text) ≡ Some dialect
  pub used_is : used ≡ length text + 1

-- What was read is there; where more is wanted, the line has no end yet; what is foreign has an end or is too long, and tells of no dialect, whatever follows.
abbrev pub TellsDialect : List ℕ → DialectRead → Type 0
TellsDialect bytes (reads.Told dialect used) = IsDialectLine bytes dialect used
TellsDialect bytes reads.More = IsOpen bytes
TellsDialect bytes reads.Neither = (¬ IsOpen bytes) × ((more : List ℕ) (dialect : Dialect) (used : ℕ) → ¬ IsDialectLine (bytes ++ more) dialect used)
