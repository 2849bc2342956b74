-- For which keys a get copies by a tree. Source: mcgate's own.
use Rattle.std.specs.Prelude.{◌≡◌, ℕ, true, false, List, Option, Some, None}
use Rattle.mc_types.specs.declared.ask.Op.{Op}
use Rattle.mc_types.specs.declared.ask.Op.TheVariants.{Get}
use Rattle.route_tree.specs.Each.{Each, IsIn}
use Rattle.route_tree.specs.Route.{Route}
use Rattle.route_tree.specs.At.{plain_for, tree_at}
use Rattle.route_tree.specs.Copies.{may_copy}
use Rattle.route_tree.specs.Place.{prefixes, IsLongest}
use Rattle.gate_check.specs.Places.{IsClassOf}
use Rattle.core_accepted.specs.declared.fleets.gates.copied.Copied.{Copied}
use Rattle.core_accepted.specs.declared.fleets.gates.copied.Copied.TheVariants as kinds

-- no command of the tree may copy, whatever its key
abbrev pub CopiesNothing : Route → Type 0
CopiesNothing tree = (op : Op) (key : List ℕ) → may_copy op (tree_at tree key) ≡ false

-- a get of each key copies for which this is the longest of the tree's prefixes that begins it, or none begins it
pub record CopiesKeys (tree : Route) (prefix : Option (List ℕ)) : Type 0 where
  pub known : IsClassOf (prefixes tree) prefix
  pub copies : (key : List ℕ) → IsLongest (prefixes tree) key prefix → may_copy Get (tree_at tree key) ≡ true

-- no key, or some
abbrev pub CopiesSome : Route → Copied → Type 0
CopiesSome tree kinds.Nothing = CopiesNothing tree
CopiesSome tree (kinds.Keys prefix) = CopiesKeys tree prefix

-- whether a get copies by what is left of the tree for a text
abbrev pub CopiesText : Route → List ℕ → Type 0
CopiesText tree text = (hash : ℕ) → may_copy Get (plain_for hash text tree) ≡ true

abbrev pub LeavesText : Route → List ℕ → Type 0
LeavesText tree text = (hash : ℕ) → may_copy Get (plain_for hash text tree) ≡ false

-- one of the texts for which a get copies, or it does for none
abbrev pub IsFirstCopied : Route → List (List ℕ) → Option (List ℕ) → Type 0
IsFirstCopied tree texts None = Each (LeavesText tree) texts
IsFirstCopied tree texts (Some text) = IsIn text texts × CopiesText tree text
