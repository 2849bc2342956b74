use Rattle.std.proofs.Common.{take}
use Rattle.std.specs.Io.KnownBytes.{Appends}
use Rattle.gate_gaps.specs.Lines.{members_text}
use Rattle.gate_gaps.proofs.writing.write_members.Given as goal

abbrev pub invariant-loop-server_use : goal.invariant-loop-server_use
invariant-loop-server_use g l =
    Appends (g.W.Write.contents l.initial.out) (g.W.Write.contents l.out) (members_text l.servers l.pools l.which (take l.server_use-index l.server_uses))
