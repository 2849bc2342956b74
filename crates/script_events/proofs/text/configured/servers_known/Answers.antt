use Rattle.std.proofs.Common.{sym, ◌∙◌}
use Rattle.script_events.proofs.Loads.{known_last}
use Rattle.script_events.proofs.text.configured.servers_known.Goals as goal

pub returns-in-Some : goal.returns-in-Some
returns-in-Some c = c.servers.ensures.servers ∙ sym (known_last c.args.servers.now c.args.reloads.now c.in-Some.reload.now (sym c.in-Some.ensures.value))
