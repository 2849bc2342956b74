-- The nodes and edges of a tree. The routes are numbered from the root, 0, each child after all that stands before it. Source: mcgate's own.
use Rattle.std.specs.Prelude.{ℕ, ◌+◌, ◌==◌, Bool, List, [], ◌++◌, codes, decimal, if◌then◌else◌}
use Rattle.route_tree.specs.Route.{Route, Routes, Policies, Prefixes, Pool, Server, Null, Failing, AllSync, Failover, MissFailover, WarmUp, ByOperation, ByPrefix, End, More, Otherwise, Policy, Wildcard, Prefix}
use Rattle.route_json.specs.Servers.{Addresses}
use Rattle.gate_gaps.specs.Names.{op_name}
use Rattle.gate_gaps.specs.Pools.{NamedPools}
use Rattle.gate_picture.specs.Alike.{next_run, next_prefix_run}
use Rattle.gate_picture.specs.Nodes.{nodes}
use Rattle.gate_gaps.specs.Quoting.{quoted}
use Rattle.gate_picture.specs.Statements.{edge_line, node_line, run_line, prefix_run_line}
use Rattle.gate_picture.specs.declared.alike.Run.{Run}

-- before the first child no run goes on
abbrev pub no_run : ℕ → Run
no_run n = record { head = n; more = 0 }

module _ (servers : Addresses) (pools : NamedPools) where
  -- the edge to a child, and its node
  abbrev pub front_lines : ℕ → (label : List ℕ) → ℕ → Route → List ℕ
  front_lines parent label n r = edge_line parent label 0 n ++ node_line servers pools n r

  -- the edge to the children of a run, and their node
  abbrev pub run_front_lines : ℕ → (label : List ℕ) → (more n : ℕ) → Route → Routes → List ℕ
  run_front_lines parent label more n r rs = edge_line parent label more n ++ run_line servers pools n more r rs

  -- the edge to the children by prefix of a run, and their node
  abbrev pub prefix_front_lines : ℕ → (label : List ℕ) → (more n : ℕ) → Route → Prefixes → List ℕ
  prefix_front_lines parent label more n r ps = edge_line parent label more n ++ prefix_run_line servers pools n more r ps

  -- a run of children, and what is below its first one
  abbrev pub member_lines : ℕ → (index more n : ℕ) → Route → Routes → (below : List ℕ) → List ℕ
  member_lines parent index more n r rs below = run_front_lines parent (codes "children[" ++ decimal index ++ codes "]") more n r rs ++ below

  -- a run of children, and what is below its first one, if the child is the first of its run
  abbrev pub member_if : Bool → ℕ → (index more n : ℕ) → Route → Routes → (below : List ℕ) → List ℕ
  member_if is_first parent index more n r rs below = if is_first then member_lines parent index more n r rs below else []

  -- a run of children by prefix, and what is below its first one
  abbrev pub prefix_member_lines : ℕ → (prefix : List ℕ) → (more n : ℕ) → Route → Prefixes → (below : List ℕ) → List ℕ
  prefix_member_lines parent p more n r ps below = prefix_front_lines parent (codes "prefix " ++ quoted p) more n r ps ++ below

  -- a run of children by prefix, and what is below its first one, if the child is the first of its run
  abbrev pub prefix_member_if : Bool → ℕ → (prefix : List ℕ) → (more n : ℕ) → Route → Prefixes → (below : List ℕ) → List ℕ
  prefix_member_if is_first parent p more n r ps below = if is_first then prefix_member_lines parent p more n r ps below else []

  abbrev mutual
    -- what is below the node of this number
    pub below_lines : ℕ → Route → List ℕ
    below_lines n (Pool slots) = []
    below_lines n (Server s) = []
    below_lines n Null = []
    below_lines n Failing = []
    below_lines n (AllSync rs) = below_all n 0 (n + 1) (no_run n) rs
    below_lines n (Failover rs) = below_all n 0 (n + 1) (no_run n) rs
    below_lines n (MissFailover rs) = below_all n 0 (n + 1) (no_run n) rs
    below_lines n (WarmUp cold warm e) =
        front_lines n (codes "cold") (n + 1) cold ++ below_lines (n + 1) cold
        ++ front_lines n (codes "warm") (n + 1 + nodes cold) warm ++ below_lines (n + 1 + nodes cold) warm
    below_lines n (ByOperation ps) = below_policies n (n + 1) ps
    below_lines n (ByPrefix ps) = below_prefixes n (n + 1) (no_run n) ps

    -- children, the first of them with this index and number, after a child of this run; a run is drawn where it begins
    pub below_all : ℕ → (index n : ℕ) → Run → Routes → List ℕ
    below_all parent index n run End = []
    below_all parent index n run (More r rs) =
        member_if (run.more == 0) parent index (next_run run n r rs).more n r (More r rs) (below_lines n r) ++ below_all parent (index + 1) (n + nodes r) (next_run run n r rs) rs

    -- children by operation, the first of them with this number
    pub below_policies : ℕ → ℕ → Policies → List ℕ
    below_policies parent n (Otherwise r) = front_lines parent (codes "default") n r ++ below_lines n r
    below_policies parent n (Policy op r ps) = front_lines parent (op_name op) n r ++ below_lines n r ++ below_policies parent (n + nodes r) ps

    -- children by prefix, the first of them with this number, after a child of this run; a run is drawn where it begins
    pub below_prefixes : ℕ → ℕ → Run → Prefixes → List ℕ
    below_prefixes parent n run (Wildcard r) = front_lines parent (codes "wildcard") n r ++ below_lines n r
    below_prefixes parent n run (Prefix p r ps) =
        prefix_member_if (run.more == 0) parent p (next_prefix_run run n r ps).more n r (Prefix p r ps) (below_lines n r)
        ++ below_prefixes parent (n + nodes r) (next_prefix_run run n r ps) ps

  -- a child and what is below it
  abbrev pub child_lines : ℕ → (label : List ℕ) → ℕ → Route → List ℕ
  child_lines parent label n r = front_lines parent label n r ++ below_lines n r

  abbrev pub tree_lines : Route → List ℕ
  tree_lines r = node_line servers pools 0 r ++ below_lines 0 r
