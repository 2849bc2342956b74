use Rattle.std.proofs.Common.{◌≡◌, take, map, flat_map}
use Rattle.watch_admin.specs.Told.{sample_read, command_counts}
use Rattle.watch_admin.proofs.numbers.add_commands.Given as goal

abbrev pub invariant-loop-of_op : goal.invariant-loop-of_op
invariant-loop-of_op l = map sample_read l.samples.items ≡ flat_map command_counts (take l.of_op-index l.commands)
