-- The servers that a plain tree names at a place are some of the tree's, and how servers began.
use Rattle.std.proofs.Common.{◌≡◌, ℕ, ◌<◌, ◌≤◌, Bool, List, [], ◌∷◌, ◌++◌, length, Some, ⊎_elim, subst, arith, slice_get}
use Rattle.fresh_runs.proofs.Lists.{get_last}
use Rattle.route_tree.specs.Each.{Each}
use Rattle.route_tree.specs.Route.{Route, Routes, Policies, Prefixes, Pool, Server, Null, Failing, AllSync, Failover, MissFailover, WarmUp, ByOperation, ByPrefix, End, More, Otherwise, Policy, Wildcard, Prefix, IsTree}
use Rattle.route_tree.specs.At.{plain_for}
use Rattle.route_tree.specs.Servers.{servers, tree_servers, tree_servers_of_all, tree_servers_of_policies, tree_servers_of_prefixes}
use Rattle.route_tree.proofs.Parts.{each_weaker}
use Rattle.route_tree.proofs.Places.{each_append}
use Rattle.route_tree.proofs.Servers.{plain_has}
use Rattle.route_json.specs.Fits.{IsBelow, AreBelow, ArePoliciesBelow, ArePrefixesBelow}
use Rattle.route_json.specs.Pools.{AllBelow}
use Rattle.gate_growth.specs.declared.ledger.page.Beginning.{Beginning}
use Rattle.gate_growth.specs.Pages.{is_any, AreBegun, AreOpened}

module _ (bound : ℕ) where
  abbrev Low : ℕ → Type 0
  Low s = s < bound

  slots_low : (ss : List ℕ) → AllBelow bound ss → Each Low ss
  slots_low [] h = tt
  slots_low (s ∷ ss) h = (h.0, slots_low ss h.1)

  mutual
    tree_low : (r : Route) → IsBelow bound r → Each Low (tree_servers r)
    tree_low (Pool ss) h = slots_low ss h
    tree_low (Server s) h = (h, tt)
    tree_low Null h = tt
    tree_low Failing h = tt
    tree_low (AllSync rs) h = all_low rs h
    tree_low (Failover rs) h = all_low rs h
    tree_low (MissFailover rs) h = all_low rs h
    tree_low (WarmUp c w e) h = each_append Low (tree_servers c) (tree_servers w) (tree_low c h.0) (tree_low w h.1)
    tree_low (ByOperation ps) h = policies_low ps h
    tree_low (ByPrefix ps) h = prefixes_low ps h

    all_low : (rs : Routes) → AreBelow bound rs → Each Low (tree_servers_of_all rs)
    all_low End h = tt
    all_low (More r rs) h = each_append Low (tree_servers r) (tree_servers_of_all rs) (tree_low r h.0) (all_low rs h.1)

    policies_low : (ps : Policies) → ArePoliciesBelow bound ps → Each Low (tree_servers_of_policies ps)
    policies_low (Otherwise r) h = tree_low r h
    policies_low (Policy op r ps) h = each_append Low (tree_servers r) (tree_servers_of_policies ps) (tree_low r h.0) (policies_low ps h.1)

    prefixes_low : (ps : Prefixes) → ArePrefixesBelow bound ps → Each Low (tree_servers_of_prefixes ps)
    prefixes_low (Wildcard r) h = tree_low r h
    prefixes_low (Prefix p r ps) h = each_append Low (tree_servers r) (tree_servers_of_prefixes ps) (tree_low r h.0) (prefixes_low ps h.1)

-- so they are below a larger number
pub servers_low : (bound more : ℕ) (r : Route) → bound ≤ more → IsBelow bound r → Each (λ s. s < more) (tree_servers r)
servers_low bound more r le h = each_weaker (λ s. s < bound) (λ s. s < more) (tree_servers r) (λ s lt. omega (arith, lt, le)) (tree_low bound r h)

pub plain_low : (bound : ℕ) (r : Route) → IsTree r → Each (λ s. s < bound) (tree_servers r) → (hash : ℕ) (text : List ℕ) → Each (λ s. s < bound) (servers (plain_for hash text r))
plain_low bound r tree h hash text = plain_has (λ s. s < bound) hash text r tree.good h

-- one server more, which began so
pub begun_more : (arbitrary : ℕ → Bool) (begun : List Beginning) (b : Beginning) (from bound : ℕ) → from ≤ length begun → length begun < bound → AreOpened arbitrary from bound b → AreBegun arbitrary begun → AreBegun arbitrary (begun ++ b ∷ [])
begun_more arbitrary begun b from bound le lt opened are s c got =
    ⊎_elim
    (λ (l : (slice_get begun s ≡ Some c) × (s < length begun)). are s c l.0)
    (λ (r : (s ≡ length begun) × (b ≡ c)). (let at = r.0 in subst (λ x. arbitrary s ≡ is_any x) r.1 (opened s (omega (arith, at, le)) (omega (arith, at, lt)))))
    (get_last begun b c s got)
