use Rattle.std.proofs.Common.{◌≡◌, ◌≤◌, ◌-◌, ℕ, drop, length}
use Rattle.script_events.specs.Reloads.{ReloadsInOrder}
use Rattle.script_run.specs.Driving.{AreMarks}
use Rattle.script_run.specs.Stepping.{Loads}
use Rattle.script_run.proofs.running.load_due.Given as goal

abbrev pub decreases-loop-marks : goal.decreases-loop-marks
decreases-loop-marks l = length l.fn.reloads - l.loaded

abbrev pub invariant-loop-marks : goal.invariant-loop-marks
invariant-loop-marks l = record {
  loads : Loads l.fn.refused l.fn.reloads l.fn.next l.fn.shown l.fn.before l.loaded l.fn.marks.items l.marks.items l.fn.runner l.runner;
  clients : l.runner.clients ≡ l.fn.runner.clients;
  order : (end servers : ℕ) → ReloadsInOrder end servers l.fn.next (drop l.fn.before l.fn.reloads) → ReloadsInOrder end servers l.fn.next (drop l.loaded l.fn.reloads);
  within : l.loaded ≤ length l.fn.reloads;
  marked : length l.fn.marks.items ≡ l.fn.before → length l.marks.items ≡ l.loaded;
  marks : AreMarks l.fn.shown l.fn.marks.items → AreMarks l.fn.shown l.marks.items;
}
