use Rattle.std.proofs.Common.{◌≡◌, ◌<◌, ◌≤◌, ◌++◌, ℕ, List, [], length}
use Rattle.std.specs.Prelude.{◌⊎◌}
use Rattle.std.specs.List.{All}
use Rattle.script_events.specs.Servers.{count_of_servers}
use Rattle.script_run.specs.Driving.{joined_cuts}
use Rattle.script_run.specs.Stepping.{FedInCuts}
use Rattle.script_run.proofs.events.piece.Given as goal

abbrev pub decreases-loop-rest : goal.decreases-loop-rest
decreases-loop-rest l = length l.rest

abbrev pub invariant-loop-rest : goal.invariant-loop-rest
invariant-loop-rest l = record {
  cuts : List (List ℕ);
  bytes_are : l.fn.bytes ≡ joined_cuts cuts ++ l.rest;
  full : All (λ (cut : List ℕ). length cut ≡ 65536) cuts;
  some : (cuts ≡ []) ⊎ (0 < length l.rest);
  fed : FedInCuts l.fn.client cuts l.fn.runner l.fn.servers l.runner l.servers;
  count : count_of_servers l.servers ≡ count_of_servers l.fn.servers;
  opened : (l.fn.client < l.runner.clients) × (l.fn.runner.clients ≤ l.runner.clients);
}
