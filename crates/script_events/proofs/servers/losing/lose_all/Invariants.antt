use Rattle.std.proofs.Common.{◌≡◌, length, take}
use Rattle.script_events.specs.Losing.{AreLost}
use Rattle.script_events.proofs.servers.losing.lose_all.Given as goal

abbrev pub invariant-loop-loss : goal.invariant-loop-loss
invariant-loop-loss l = record {
  lost : AreLost (take l.loss-index l.losses) l.fn.caches.items l.caches.items;
  count : length l.caches.items ≡ length l.fn.caches.items;
}
