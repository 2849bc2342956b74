use Rattle.std.proofs.Common.{◌≡◌, take, flat_map}
use Rattle.watch_admin.specs.Told.{command_counts}
use Rattle.mcgate_serve.specs.Told.{op_counts}
use Rattle.mcgate_serve.proofs.watching.numbers_of_ops.Given as goal

abbrev pub invariant-loop-op : goal.invariant-loop-op
invariant-loop-op l = flat_map command_counts l.commands.items ≡ flat_map (op_counts l.tally) (take l.op-index l.ops)
