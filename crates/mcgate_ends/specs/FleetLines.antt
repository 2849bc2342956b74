-- The lines of a fleet's verdict. Source: mcgate's own.
use Rattle.std.specs.Prelude.{ℕ, ◌+◌, ◌==◌, ◌&&◌, List, [], ◌++◌, Option, codes, decimal, length, if◌then◌else◌}
use Rattle.mc_types.specs.declared.ask.Op.TheVariants.{Get}
use Rattle.text_words.specs.Escapes.{escaped}
use Rattle.route_json.specs.Servers.{Addresses}
use Rattle.route_tree.specs.At.{begins, plain_for}
use Rattle.route_tree.specs.Copies.{may_copy}
use Rattle.route_tree.specs.Operation.{same_op}
use Rattle.route_tree.specs.Place.{prefix_text}
use Rattle.route_tree.specs.Route.{Route, Routes, Policies, Prefixes, Pool, Server, Null, Failing, AllSync, Failover, MissFailover, WarmUp, ByOperation, ByPrefix, End, More, Otherwise, Policy, Wildcard, Prefix}
use Rattle.gate_check.specs.declared.gap.Gap.{Gap}
use Rattle.gate_gaps.specs.Pointing.{pointed}
use Rattle.gate_gaps.specs.Sites.{longest_begun}
use Rattle.mcgate_lines.specs.Verdict.{gap_fields}
use Rattle.mcgate_ends.specs.declared.fleets.lines.ChildStep.{ChildStep}
use Rattle.mcgate_ends.specs.declared.fleets.lines.ChildStep.TheVariants as steps

-- the line of trees that are accepted together: accepted trees=N
abbrev pub fleet_line : ℕ → List ℕ
fleet_line count = codes "accepted trees=" ++ decimal count ++ codes "\n"

-- the line of more files than are judged together
abbrev pub many_files_line : List ℕ
many_files_line = codes "refused: too many files\n"

-- the files by which is read and deleted
abbrev pub pair_fields : (reads deletes : List ℕ) → List ℕ
pair_fields reads deletes = codes " reads=" ++ escaped reads ++ codes " deletes=" ++ escaped deletes

-- the line of two trees that have too many places together
abbrev pub many_places_line : (reads deletes : List ℕ) → List ℕ
many_places_line reads deletes = codes "refused: too many places" ++ pair_fields reads deletes ++ codes "\n"

abbrev pub pair_head : (reads deletes : List ℕ) → List ℕ
pair_head reads deletes = codes "refused:" ++ pair_fields reads deletes

-- the line of a gap of two trees
abbrev pub pair_gap_line : Addresses → (reads deletes : List ℕ) → Gap → List ℕ
pair_gap_line servers reads deletes gap = pair_head reads deletes ++ gap_fields servers gap

-- the steps from selectors to their children
unfoldable pub copy_step_text : ChildStep → List ℕ
copy_step_text steps.Default = codes "/default_policy"
copy_step_text steps.Get = codes "/operation_policies/get"
copy_step_text steps.Wildcard = codes "/wildcard"

abbrev pub step_to_child : ℕ → List ℕ
step_to_child index = codes "/children/" ++ decimal index

abbrev pub step_to_policy : List ℕ → List ℕ
step_to_policy policy = codes "/policies/" ++ pointed policy

module _ (text : List ℕ) where
  abbrev mutual
    -- the path from a route through the JSON text to the first warm-up that a get of keys with this text comes to; empty where there is none
    pub copy_path : Route → List ℕ
    copy_path (Pool slots) = []
    copy_path (Server s) = []
    copy_path Null = []
    copy_path Failing = []
    copy_path (AllSync rs) = copy_path_in 0 rs
    copy_path (Failover rs) = copy_path_in 0 rs
    copy_path (MissFailover rs) = copy_path_in 0 rs
    copy_path (WarmUp cold warm e) = []
    copy_path (ByOperation ps) = copy_path_by ps
    copy_path (ByPrefix ps) = copy_path_begun (longest_begun text ps) ps

    -- the path through the first of the children by which a get copies, counted from this index on
    pub copy_path_in : ℕ → Routes → List ℕ
    copy_path_in index End = []
    copy_path_in index (More r rs) = if may_copy Get (plain_for 0 text r) then step_to_child index ++ copy_path r else copy_path_in (index + 1) rs

    -- the path through the policy of gets, else through the default
    pub copy_path_by : Policies → List ℕ
    copy_path_by (Otherwise r) = copy_step_text steps.Default ++ copy_path r
    copy_path_by (Policy op r ps) = if same_op op Get then copy_step_text steps.Get ++ copy_path r else copy_path_by ps

    -- the path through the policy of this length that begins the text, else through the wildcard
    pub copy_path_begun : (longest : ℕ) → Prefixes → List ℕ
    copy_path_begun longest (Wildcard r) = copy_step_text steps.Wildcard ++ copy_path r
    copy_path_begun longest (Prefix p r ps) = if begins p text && length p == longest then step_to_policy p ++ copy_path r else copy_path_begun longest ps

-- the prefix and the file, and the line's end
abbrev pub copying_end : (file : List ℕ) → Option (List ℕ) → List ℕ
copying_end file prefix = codes " prefix=" ++ escaped (prefix_text prefix) ++ codes " file=" ++ escaped file ++ codes "\n"

abbrev pub copying_front : (text : List ℕ) → Route → List ℕ
copying_front text tree = codes "refused: a read copies, route=/route" ++ copy_path text tree

-- the line of a tree by which a get of keys with this prefix copies
abbrev pub copying_line : (file : List ℕ) → Route → Option (List ℕ) → List ℕ
copying_line file tree prefix = copying_front (prefix_text prefix) tree ++ copying_end file prefix
