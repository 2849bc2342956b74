use Rattle.mcgate_serve.specs.Told.{AreOfServers}
use Rattle.mcgate_serve.proofs.watching.servers_of.Given as goal

abbrev pub invariant-loop-server : goal.invariant-loop-server
invariant-loop-server g l = AreOfServers l.end.core.value.tally l.servers l.told.items
