-- The place of a key in a tree: which of the tree's prefixes begins it, and the remainder of its hash. Source: mcgate's own.
use Rattle.std.specs.Prelude.{◌≡◌, ℕ, ◌%◌, ◌<◌, ◌≤◌, true, false, List, [], ◌∷◌, ◌++◌, length, Option, Some, None, MatchOption}
use Rattle.std.specs.Int.{◌∣◌}
use Rattle.route_tree.specs.Tag.{key_hash}
use Rattle.route_tree.specs.declared.place.Place.{Place}
use Rattle.route_tree.specs.Each.{Each, IsIn}
use Rattle.route_tree.specs.At.{begins, plain_for, tree_at}
use Rattle.route_tree.specs.Plan.{Plan}
use Rattle.route_tree.specs.Route.{Route, Routes, Policies, Prefixes, Pool, Server, Null, Failing, AllSync, Failover, MissFailover, WarmUp, ByOperation, ByPrefix, End, More, Otherwise, Policy, Wildcard, Prefix, IsTree}

abbrev mutual
  -- the sizes of the pools of a tree, at any depth; a server that stands alone is no pool
  pub sizes : Route → List ℕ
  sizes (Pool servers) = length servers ∷ []
  sizes (Server s) = []
  sizes Null = []
  sizes Failing = []
  sizes (AllSync rs) = sizes_of_all rs
  sizes (Failover rs) = sizes_of_all rs
  sizes (MissFailover rs) = sizes_of_all rs
  sizes (WarmUp cold warm e) = sizes cold ++ sizes warm
  sizes (ByOperation ps) = sizes_of_policies ps
  sizes (ByPrefix ps) = sizes_of_prefixes ps

  -- the sizes of the pools of all children
  pub sizes_of_all : Routes → List ℕ
  sizes_of_all End = []
  sizes_of_all (More r rs) = sizes r ++ sizes_of_all rs

  -- the sizes of the pools of the children by operation
  pub sizes_of_policies : Policies → List ℕ
  sizes_of_policies (Otherwise r) = sizes r
  sizes_of_policies (Policy op r ps) = sizes r ++ sizes_of_policies ps

  -- the sizes of the pools of the children by prefix
  pub sizes_of_prefixes : Prefixes → List ℕ
  sizes_of_prefixes (Wildcard r) = sizes r
  sizes_of_prefixes (Prefix p r ps) = sizes r ++ sizes_of_prefixes ps

abbrev mutual
  -- the prefixes of the policies of a tree, at any depth
  pub prefixes : Route → List (List ℕ)
  prefixes (Pool servers) = []
  prefixes (Server s) = []
  prefixes Null = []
  prefixes Failing = []
  prefixes (AllSync rs) = prefixes_of_all rs
  prefixes (Failover rs) = prefixes_of_all rs
  prefixes (MissFailover rs) = prefixes_of_all rs
  prefixes (WarmUp cold warm e) = prefixes cold ++ prefixes warm
  prefixes (ByOperation ps) = prefixes_of_policies ps
  prefixes (ByPrefix ps) = prefixes_of_prefixes ps

  -- the prefixes of all children
  pub prefixes_of_all : Routes → List (List ℕ)
  prefixes_of_all End = []
  prefixes_of_all (More r rs) = prefixes r ++ prefixes_of_all rs

  -- the prefixes of the children by operation
  pub prefixes_of_policies : Policies → List (List ℕ)
  prefixes_of_policies (Otherwise r) = prefixes r
  prefixes_of_policies (Policy op r ps) = prefixes r ++ prefixes_of_policies ps

  -- the prefixes of the policies themselves, and of their children
  pub prefixes_of_prefixes : Prefixes → List (List ℕ)
  prefixes_of_prefixes (Wildcard r) = prefixes r
  prefixes_of_prefixes (Prefix p r ps) = (p ∷ prefixes r) ++ prefixes_of_prefixes ps

-- the smallest number above 0 that each of these numbers divides
pub record IsLeastCommonMultiple (ns : List ℕ) (m : ℕ) : Type 0 where
  pub some : 0 < m
  pub common : Each (λ n. n ∣ m) ns
  pub least : (k : ℕ) → 0 < k → Each (λ n. n ∣ k) ns → m ≤ k

-- the longest of the prefixes that begin the key, or none where none does
abbrev pub IsLongest : List (List ℕ) → List ℕ → Option (List ℕ) → Type 0
IsLongest ps key longest =
    MatchOption longest
    (Each (λ p. begins p key ≡ false) ps)
    (λ q. IsIn q ps × (begins q key ≡ true) × Each (λ p. begins p key ≡ true → length p ≤ length q) ps)

-- the place of the key: the longest of all the tree's prefixes that begins it, and its hash modulo the least common multiple of the pools' sizes
pub record IsPlaceOf (r : Route) (key : List ℕ) (place : Place) : Type 0 where
  pub prefix : IsLongest (prefixes r) key place.prefix
  pub modulus : IsLeastCommonMultiple (sizes r) place.modulus
  pub residue : place.residue ≡ key_hash key % place.modulus

-- the prefix, or the empty text
abbrev pub prefix_text : Option (List ℕ) → List ℕ
prefix_text None = []
prefix_text (Some p) = p

-- the plain tree of the keys of a place
abbrev pub tree_at_place : Route → Place → Plan
tree_at_place r place = plain_for place.residue (prefix_text place.prefix) r

-- The plain tree of a key is that of its place.
abbrev pub PlaceIsEnough : Type 0
PlaceIsEnough = (r : Route) (key : List ℕ) (place : Place) → IsTree r → IsPlaceOf r key place → tree_at r key ≡ tree_at_place r place
