use Rattle.std.proofs.Common.{◌≡◌, take}
use Rattle.watch_admin.specs.Quoted.{quoted_bytes}
use Rattle.watch_admin.proofs.quoted.are_plain.Given as goal

abbrev pub invariant-loop-byte : goal.invariant-loop-byte
invariant-loop-byte l = quoted_bytes (take l.byte-index l.bytes) ≡ take l.byte-index l.bytes
