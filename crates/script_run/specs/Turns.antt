-- Which call that is out has its result next. Source: mcgate's own.
use Rattle.std.specs.Prelude.{◌≡◌, ◌⊎◌, ℕ, ◌<◌, ◌≤◌, false, List, [], ◌∷◌, ◌++◌, map, Option, Some, None, IfSome, nat_eq}
use Rattle.std.specs.List.{All}
use Rattle.mc_types.specs.Items.{Item}
use Rattle.fresh_runs.specs.Overlap.{Entry, run_of, out_of}
use Rattle.route_tree.specs.Route.{Route}
use Rattle.core_commands.specs.declared.ticket.Ticket.{Ticket}
use Rattle.core_proxy.specs.CoreState.{dialect}
use Rattle.script_events.specs.declared.servers.servers.ScriptServers.{ScriptServers}
use Rattle.script_run.specs.Results.{CallResult, AreOfFirst, call_of_result, calls_of}
use Rattle.script_run.specs.Standing.{log_calls_at, LogStands}
use Rattle.script_run.specs.Running.{kept_of, MovesBy}
use Rattle.script_run.specs.declared.driver.runner.Runner.{Runner}

-- the first of the calls that were out at this server is out no more
pub record TakesFirst (server : ℕ) (ticket : Ticket) (old new : Runner) : Type 0 where
  pub rest : new ≡ record old { out = new.out }
  pub first : log_calls_at server old.out.items ≡ record { number = ticket.number; ask = ticket.ask; origin = ticket.origin } ∷ log_calls_at server new.out.items
  pub others : (s : ℕ) → nat_eq server s ≡ false → log_calls_at s new.out.items ≡ log_calls_at s old.out.items

-- a call is out at this server
abbrev pub IsOutAt : ℕ → List Ticket → Type 0
IsOutAt server [] = ⊥
IsOutAt server (ticket ∷ tickets) = (ticket.server ≡ server) ⊎ IsOutAt server tickets

-- the least server at which a call is out; none where none is
abbrev pub IsLeast : Option ℕ → List Ticket → Type 0
IsLeast None tickets = tickets ≡ []
IsLeast (Some server) tickets = IsOutAt server tickets × All (λ ticket. server ≤ ticket.server) tickets

-- the lesser of two servers, or the only one
pub record IsLesser (one : Option ℕ) (other server : ℕ) : Type 0 where
  pub within : server ≤ other
  pub below : IfSome one (λ s. server ≤ s)
  pub is : (server ≡ other) ⊎ (one ≡ Some server)

-- ---- results in their turn

-- after this log the result is the next one: of the first call that is out at its server, where none is out at a lesser one
pub record IsNextResult (r : CallResult) (log : List (Entry dialect)) : Type 0 where
  pub first : AreOfFirst r.server (out_of log r.server) (r ∷ [])
  pub least : (s : ℕ) → s < r.server → out_of log s ≡ []

-- the log went on by these entries with these results, the latest first, each of them the next one in the part of the log that stood before it
abbrev pub AreNextResults : List CallResult → List (Entry dialect) → List (Entry dialect) → Type 0
AreNextResults [] more log = Unit {0}
AreNextResults (r ∷ rs) more log =
    (later earlier : List (Entry dialect)) × (more ≡ later ++ earlier) × (calls_of (run_of (earlier ++ log)) ≡ map call_of_result rs ++ calls_of (run_of log)) × IsNextResult r (earlier ++ log) × AreNextResults rs earlier log

-- the servers gave some results, and each log that stood before goes on by them, each in its turn
pub record MovesInTurn (old : Runner) (before : ScriptServers) (new : Runner) (after : ScriptServers) : Type 0 where
  pub results : List CallResult
  pub moves : MovesBy results old before new after
  pub in_turn :
      (opening : ℕ → List ℕ → Option Item) (tree : ℕ → Route) (log : List (Entry dialect)) (stands : LogStands opening tree log (kept_of old before)) → AreNextResults results (moves.goes opening tree log stands).goes.more log
