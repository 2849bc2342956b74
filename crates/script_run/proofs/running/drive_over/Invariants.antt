use Rattle.std.proofs.Common.{◌≡◌, ◌≤◌, drop, length, map, None}
use Rattle.route_tree.specs.Route.{Route}
use Rattle.script_events.specs.Servers.{count_of_servers}
use Rattle.script_events.specs.Scripted.{scripted_of, transcript_of}
use Rattle.script_events.specs.Reloads.{ReloadsInOrder}
use Rattle.script_events.proofs.BadEvents.{bad_from}
use Rattle.script_run.specs.Running.{kept_of}
use Rattle.script_run.specs.Driving.{AreMarks}
use Rattle.script_run.specs.Stepping.{HasStood}
use Rattle.script_run.proofs.running.drive_over.Given as goal

abbrev pub invariant-loop-next : goal.invariant-loop-next
invariant-loop-next l = record {
  count : count_of_servers l.servers ≡ count_of_servers l.fn.servers;
  within : l.loaded ≤ length l.fn.reloads;
  order : ReloadsInOrder (length l.events) (count_of_servers l.fn.servers) l.next (drop l.loaded l.fn.reloads);
  ahead : bad_from (count_of_servers l.fn.servers) l.events l.next ≡ None;
  stood : (first : Route) → HasStood first l.fn.refused l.fn.reloads (map scripted_of l.events) 0 (map scripted_of l.events) (transcript_of l.fn.transcript) l.fn.marks.items l.fn.runner.clients (kept_of l.fn.runner l.fn.servers)
      → HasStood first l.fn.refused l.fn.reloads (map scripted_of l.events) l.loaded (map scripted_of (drop l.next l.events)) (transcript_of l.transcript) l.marks.items l.runner.clients (kept_of l.runner l.servers);
  marked : length l.marks.items ≡ l.loaded;
  marks : AreMarks (length l.transcript.shown.items) l.marks.items;
}
