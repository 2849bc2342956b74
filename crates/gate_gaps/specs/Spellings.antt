-- Bytes as they are spelled on a line or in a label. Source: mcgate's own.
use Rattle.std.specs.Prelude.{ℕ, List}
use Rattle.text_words.specs.Escapes.{escaped}
use Rattle.gate_gaps.specs.Quoting.{quoted}
use Rattle.gate_gaps.specs.declared.spelling.Spelling.{Spelling}
use Rattle.gate_gaps.specs.declared.spelling.Spelling.TheVariants.{Line, Label}

abbrev pub spelled : Spelling → List ℕ → List ℕ
spelled Line bytes = escaped bytes
spelled Label bytes = quoted bytes
