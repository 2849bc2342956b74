-- The words of the table are told by their lengths.
use Rattle.std.proofs.Common.{◌≡◌, length, None, arith}
use Rattle.wire_parts.specs.Tests.{Word}
use Rattle.wire_parts.proofs.WordReads.{by_reads}
use Rattle.wire_classic.specs.CommandWords.{verb_of}

-- no command word has two letters
pub none_of_two : (w : Word) → length w ≡ 2 → verb_of w ≡ None
unfolding verb_of
none_of_two w two = grind (arith, by_reads)
