use Rattle.std.proofs.Common.{◌≡◌, take}
use Rattle.std.specs.Prelude.{fold}
use Rattle.route_tree.specs.Fnv.{with_byte}
use Rattle.route_tree.proofs.hash.fnv1a_32.Given as goal

abbrev pub invariant-loop-byte : goal.invariant-loop-byte
invariant-loop-byte l = l.hash ≡ fold with_byte 2166136261 (take l.byte-index l.bytes)
