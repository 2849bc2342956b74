-- What the law of owed calls can't do without. Source: mcgate's own.
use Rattle.std.specs.Prelude.{ℕ, List, Option}
use Rattle.mc_types.specs.Items.{Item}
use Rattle.fresh_runs.specs.Run as sharing
use Rattle.fresh_runs.specs.Run.{IsFresh}
use Rattle.fresh_runs.specs.Single.{server_words}
use Rattle.fresh_runs.specs.Freshness.{nobody_bars}
use Rattle.core_accepted.specs.Owed.{OwedMoment, told_owed}

-- with a single server, and though that answers by what it holds: where a call is answered on a key that the server owes, a run may be stale
pub record OwedRaces : Type 0 where
  pub opening : ℕ → List ℕ → Option Item
  pub moments : List OwedMoment
  pub run : sharing.Run (server_words (λ _. 0)) nobody_bars opening (told_owed opening moments)
  pub stale : IsFresh opening (told_owed opening moments) → ⊥
