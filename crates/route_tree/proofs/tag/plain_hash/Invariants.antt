use Rattle.std.proofs.Common.{◌≡◌, take}
use Rattle.std.specs.Prelude.{fold}
use Rattle.std.specs.List.{position_or_len}
use Rattle.route_tree.specs.Fnv.{with_byte}
use Rattle.route_tree.specs.Tag.{opens_tag}
use Rattle.route_tree.proofs.tag.plain_hash.Given as goal

abbrev pub invariant-loop-byte : goal.invariant-loop-byte
invariant-loop-byte l = (l.hash ≡ fold with_byte 2166136261 (take l.byte-index l.text)) × (position_or_len opens_tag (take l.byte-index l.text) ≡ l.byte-index)
