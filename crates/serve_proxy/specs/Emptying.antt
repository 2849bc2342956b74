-- Servers that are emptied before their first call. Source: mcgate's own.
use Rattle.std.specs.Prelude.{◌≡◌, ℕ, Bool, true, List, ◌++◌, Some, slice_get}
use Rattle.route_tree.specs.Each.{Each}
use Rattle.serve_links.specs.declared.link.Link.{Link}

-- behind the links that were there, which are as they were, come links whose servers are emptied first, or aren't
abbrev pub AddsEach : Bool → List Link → List Link → Type 0
AddsEach flushes old new = (more : List Link) × (new ≡ old ++ more) × Each (λ link. link.flushes ≡ flushes) more

-- the server of this number is emptied first, if there is one, and other links are as they were
pub record EmptiesAt (at : ℕ) (old new : List Link) : Type 0 where
  pub one : (link : Link) → slice_get new at ≡ Some link → link.flushes ≡ true
  pub others : (i : ℕ) (link : Link) → (i ≡ at → ⊥) → slice_get new i ≡ Some link → slice_get old i ≡ Some link
