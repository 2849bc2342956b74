use Rattle.std.proofs.Common.{ℕ, List, length, sym, ap, ◌∙◌, arith}
use Rattle.std.proofs.lemmas.List.{drop_all}
use Rattle.wire_parts.specs.declared.skip.Skip.TheVariants.{ThroughNewline}
use Rattle.wire_parts.specs.Stream.{Stands}
use Rattle.wire_stream.proofs.Through.{through_at, through_none}
use Rattle.wire_stream.proofs.stream.pass_over.Goals as goal

pub returns-in-Some-clause-place : goal.returns-in-Some-clause-place
returns-in-Some-clause-place c = rw (c.in-ThroughNewline.is, c.passed-in-Some.ensures) (through_at c.args.piece.now c.in-Some.at c.in-Some.ensures.0 c.in-Some.ensures.1)

pub returns-in-None-clause-place : goal.returns-in-None-clause-place
returns-in-None-clause-place c = rw (c.in-ThroughNewline.is, c.passed-in-None.ensures) (through_none c.args.piece.now c.in-None.ensures ∙ ap (λ (l : List ℕ). Stands ThroughNewline l) (sym (drop_all (length c.args.piece.now) c.args.piece.now (omega arith))))
