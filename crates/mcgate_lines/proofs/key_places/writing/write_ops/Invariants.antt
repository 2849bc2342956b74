use Rattle.std.proofs.Common.{take}
use Rattle.std.specs.Io.KnownBytes.{Appends}
use Rattle.mcgate_lines.specs.Blocks.{op_lines}
use Rattle.mcgate_lines.proofs.key_places.writing.write_ops.Given as goal

abbrev pub invariant-loop-op : goal.invariant-loop-op
invariant-loop-op g l = Appends (g.W.Write.contents l.initial.out) (g.W.Write.contents l.out) (op_lines l.servers l.pools l.plain (take l.op-index l.ops))
