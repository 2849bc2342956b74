-- Trees that have one server for each key. Source: mcgate's own.
use Rattle.std.specs.Prelude.{◌≡◌, ◌↔◌, ℕ, Bool, true, false, ◌&&◌, List, Option}
use Rattle.mc_types.specs.declared.ask.Ask.{Ask}
use Rattle.mc_types.specs.declared.answer.Answer.{Answer}
use Rattle.fresh_runs.specs.Calls.{Call}
use Rattle.fresh_runs.specs.Single.{server_words}
use Rattle.route_tree.specs.Plan as plan
use Rattle.route_tree.specs.Plan.{Plan}
use Rattle.route_tree.specs.Route.{Route, Prefixes, Pool, Server, Null, Failing, AllSync, Failover, MissFailover, WarmUp, ByOperation, ByPrefix, Wildcard, Prefix}
use Rattle.route_tree.specs.At.{tree_at}
use Rattle.route_tree.specs.Word.{tree_words}

abbrev mutual
  -- pools and servers, and selectors by prefix among such, have one server for each key
  pub is_direct : Route → Bool
  is_direct (Pool servers) = true
  is_direct (Server s) = true
  is_direct Null = false
  is_direct Failing = false
  is_direct (AllSync rs) = false
  is_direct (Failover rs) = false
  is_direct (MissFailover rs) = false
  is_direct (WarmUp cold warm e) = false
  is_direct (ByOperation ps) = false
  is_direct (ByPrefix ps) = are_direct ps

  -- each of these children has one server for each key
  pub are_direct : Prefixes → Bool
  are_direct (Wildcard r) = is_direct r
  are_direct (Prefix text r ps) = is_direct r && are_direct ps

-- the server that a plain tree is; 0 where it is none
abbrev pub server_of : Plan → ℕ
server_of (plan.Server s) = s
server_of plan.Null = 0
server_of plan.Failing = 0
server_of (plan.AllSync ps) = 0
server_of (plan.Failover ps) = 0
server_of (plan.MissFailover ps) = 0
server_of (plan.WarmUp cold warm e) = 0
server_of (plan.ByOperation ps) = 0

-- the server of a key
abbrev pub server_at : Route → List ℕ → ℕ
server_at tree key = server_of (tree_at tree key)

-- the words of a tree's commands, whatever their numbers
abbrev pub words_of : Route → ℕ → Ask → List Call → Answer → Option ℕ → Type 0
words_of tree = tree_words (λ number key. tree_at tree key)

-- The plain tree of each key is one server, and a command is one call of it.
abbrev pub DirectIsOneServer : Type 0
DirectIsOneServer =
    (tree : Route) → is_direct tree ≡ true
    → ((key : List ℕ) → tree_at tree key ≡ plan.Server (server_at tree key))
    × ((number : ℕ) (ask : Ask) (calls : List Call) (reply : Answer) (from : Option ℕ) → words_of tree number ask calls reply from ↔ server_words (server_at tree) number ask calls reply from)
