use Rattle.std.proofs.Common.{◌≡◌, drop, None}
use Rattle.script_events.specs.Servers.{caches_of, count_of_servers}
use Rattle.script_events.proofs.BadEvents.{bad_from}
use Rattle.script_run.specs.Holding.{put_all_on}
use Rattle.script_run.proofs.holding.hold_all.Given as goal

abbrev pub invariant-loop-event : goal.invariant-loop-event
invariant-loop-event l = record {
  put : put_all_on (drop l.event-index l.events) (caches_of l.servers) ≡ put_all_on l.events (caches_of l.fn.servers);
  count : count_of_servers l.servers ≡ count_of_servers l.fn.servers;
  rest : l.servers ≡ record l.fn.servers { caches = l.servers.caches };
  ahead : bad_from (count_of_servers l.fn.servers) l.events l.event-index ≡ None;
}
