use Rattle.script_events.specs.Servers.{lost_of, turn_of}
use Rattle.std.proofs.Common.{◌+◌}
use Rattle.script_events.proofs.Losses.{lost_there}
use Rattle.script_events.proofs.servers.servers.ScriptServers.answer.Goals as goal

pub make_call-requires-clause-there : goal.make_call-requires-clause-there
make_call-requires-clause-there c = lost_there (lost_of c.args.self.now (turn_of c.args.self.now + 1)) c.args.self.now.caches.items c.lose_named.new.self.caches.items c.args.server c.lose_named.ensures.lost c.requires.there
