-- Rows of servers.
use Rattle.std.specs.Prelude.{◌≡◌, ℕ, List}
use Rattle.gate_coverage.specs.Pools.{has, servers_at}
use Rattle.gate_check.specs.Valid.{IsRising}

-- the servers of the pools at the residue, each once and rising
pub record IsRowOf (residue : ℕ) (pools : List (List ℕ)) (row : List ℕ) : Type 0 where
  pub rising : IsRising row
  pub holds : (s : ℕ) → has row s ≡ has (servers_at residue pools) s
