-- The way of a gap's read through the tree, marked. Source: mcgate's own, in Graphviz's language.
use Rattle.std.specs.Prelude.{ℕ, ◌+◌, ◌-◌, ◌==◌, ◌&&◌, List, [], ◌∷◌, ◌++◌, codes, decimal, length, if◌then◌else◌}
use Rattle.route_tree.specs.At.{begins}
use Rattle.route_tree.specs.Operation.{same_op}
use Rattle.route_tree.specs.Place.{prefix_text}
use Rattle.route_tree.specs.Route.{Route, Routes, Policies, Prefixes, Pool, Server, Null, Failing, AllSync, Failover, MissFailover, WarmUp, ByOperation, ByPrefix, End, More, Otherwise, Policy, Wildcard, Prefix}
use Rattle.gate_check.specs.declared.gap.Gap.{Gap}
use Rattle.gate_gaps.specs.Names.{op_name}
use Rattle.gate_gaps.specs.Sites.{longest_begun}
use Rattle.gate_gaps.specs.declared.ways.WayStep.{WayStep}
use Rattle.gate_gaps.specs.declared.ways.WayStep.TheVariants as steps
use Rattle.gate_picture.specs.Alike.{next_run, next_prefix_run}
use Rattle.gate_picture.specs.Lines.{no_run}
use Rattle.gate_picture.specs.Nodes.{nodes}
use Rattle.gate_gaps.specs.Quoting.{quoted}
use Rattle.gate_picture.specs.Statements.{red_node_line, step_lines, read_line}
use Rattle.gate_picture.specs.declared.alike.Run.{Run}

-- which child a step leads to: the index of a list's, 0 for the cold side and 1 for the warm one
abbrev pub turn : WayStep → ℕ
turn (steps.Child listed n) = n
turn steps.Cold = 0
turn steps.Warm = 1
turn (steps.Policy op) = 0
turn steps.Default = 0

-- which child the first step leads to
abbrev pub first_turn : List WayStep → ℕ
first_turn [] = 0
first_turn (step ∷ way) = turn step

-- the steps after the first
abbrev pub later : List WayStep → List WayStep
later [] = []
later (step ∷ way) = way

module _ (gap : Gap) where
  abbrev mutual
    -- the way below the node of this number. A selector by prefix is no step of a way, and a selector by operation has the read's child
    pub way_below : ℕ → Route → List WayStep → List ℕ
    way_below n (Pool servers) way = read_line n gap.server gap.op
    way_below n (Server s) way = read_line n gap.server gap.op
    way_below n Null way = []
    way_below n Failing way = []
    way_below n (AllSync rs) way = way_among n (first_turn way) 0 (n + 1) (no_run n) rs (later way)
    way_below n (Failover rs) way = way_among n (first_turn way) 0 (n + 1) (no_run n) rs (later way)
    way_below n (MissFailover rs) way = way_among n (first_turn way) 0 (n + 1) (no_run n) rs (later way)
    way_below n (WarmUp cold warm e) way =
        if first_turn way == 0 then step_lines n (codes "cold") (n + 1) ++ way_below (n + 1) cold (later way)
        else step_lines n (codes "warm") (n + 1 + nodes cold) ++ way_below (n + 1 + nodes cold) warm (later way)
    way_below n (ByOperation ps) way = way_by n (n + 1) ps (later way)
    way_below n (ByPrefix ps) way = way_begun n (longest_begun (prefix_text gap.place.prefix) ps) (n + 1) (no_run n) ps way

    -- the way by the child that so many children stand before; the first of these children has this index and number, and stands after a
    -- child of this run. Of a child that is drawn with others their node is marked, and the way goes on below it
    pub way_among : (parent before index n : ℕ) → Run → Routes → List WayStep → List ℕ
    way_among parent before index n run End way = []
    way_among parent before index n run (More r rs) way =
        if before == 0 then
        step_lines parent (codes "children[" ++ decimal index ++ codes "]") (next_run run n r rs).head ++ way_below (next_run run n r rs).head r way
        else way_among parent (before - 1) (index + 1) (n + nodes r) (next_run run n r rs) rs way

    -- the way by the first policy of the read, else by the default
    pub way_by : (parent n : ℕ) → Policies → List WayStep → List ℕ
    way_by parent n (Otherwise r) way = step_lines parent (codes "default") n ++ way_below n r way
    way_by parent n (Policy op r ps) way =
        if same_op op gap.op then step_lines parent (op_name op) n ++ way_below n r way
        else way_by parent (n + nodes r) ps way

    -- the way by the policy of this length that begins the place's prefix, else by the wildcard
    pub way_begun : (parent longest n : ℕ) → Run → Prefixes → List WayStep → List ℕ
    way_begun parent longest n run (Wildcard r) way = step_lines parent (codes "wildcard") n ++ way_below n r way
    way_begun parent longest n run (Prefix p r ps) way =
        if begins p (prefix_text gap.place.prefix) && length p == longest then
        step_lines parent (codes "prefix " ++ quoted p) (next_prefix_run run n r ps).head ++ way_below (next_prefix_run run n r ps).head r way
        else way_begun parent longest (n + nodes r) (next_prefix_run run n r ps) ps way

  -- the way from the root on
  abbrev pub way_lines : Route → List WayStep → List ℕ
  way_lines r way = red_node_line 0 ++ way_below 0 r way
