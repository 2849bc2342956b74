use Rattle.std.proofs.Common.{take}
use Rattle.std.specs.Fmt.{HasWritten, IsPlainFormatter}
use Rattle.watch_admin.specs.Quoted.{quoted_bytes}
use Rattle.watch_admin.proofs.quoted.QuotedBytesDisplay.fmt.Given as goal

abbrev pub invariant-loop-byte : goal.invariant-loop-byte
invariant-loop-byte g l =
    IsPlainFormatter l.initial.f → HasWritten g.W.Write.write_str_gives l.initial.f (quoted_bytes (take l.byte-index l.byte-items)) l.f
