use Rattle.mcgate_replay.proofs.Printing.{has_reloads}
use Rattle.mcgate_replay.proofs.replaying.replay_events.Goals as goal

pub replay_read-requires-clause-reloads : goal.replay_read-requires-clause-reloads
replay_read-requires-clause-reloads g c = has_reloads c.read_events.result c.read_events.ensures.order c.read_events.ensures.chained
