-- What becomes of each server of a plain tree. Source: mcgate's own.
use Rattle.std.specs.Prelude.{◌↔◌, ℕ, List, IsTrue, map}
use Rattle.std.specs.List.{Contains}
use Rattle.std.specs.List.Sorted.{IsStrictlyIncreasing}
use Rattle.mc_types.specs.declared.ask.Op.{Op}
use Rattle.route_tree.specs.Each.{Each}
use Rattle.route_tree.specs.Plan.{Plan}
use Rattle.route_tree.specs.Servers.{servers}
use Rattle.gate_coverage.specs.declared.deleting.Deleting.{Deleting}
use Rattle.gate_coverage.specs.Cover.{IsTaking, Takes, Clears}
use Rattle.gate_gaps.specs.declared.server_uses.ServerUse.{ServerUse}

-- some operation takes the server
abbrev pub IsRead : Plan → ℕ → Type 0
IsRead plain server = (op : Op) × IsTaking op × Takes plain op server

-- what is said of a server is so
pub record IsServerUse (plain : Plan) (kind : Deleting) (server_use : ServerUse) : Type 0 where
  pub read : IsTrue server_use.is_read ↔ IsRead plain server_use.server
  pub cleared : IsTrue server_use.is_cleared ↔ Clears plain kind server_use.server

-- the servers that the plain tree names, each once, rising
pub record AreServersOf (plain : Plan) (row : List ℕ) : Type 0 where
  pub rising : IsStrictlyIncreasing row
  pub named : (s : ℕ) → Contains row s → Contains (servers plain) s
  pub whole : (s : ℕ) → Contains (servers plain) s → Contains row s

-- what becomes of each server that the plain tree names
pub record AreServerUses (plain : Plan) (kind : Deleting) (server_uses : List ServerUse) : Type 0 where
  pub servers : AreServersOf plain (map (λ (x : ServerUse). x.server) server_uses)
  pub each : Each (IsServerUse plain kind) server_uses
