-- Which servers are emptied before their first call. Source: mcgate's own.
use Rattle.std.specs.Prelude.{◌≡◌, ◌⊎◌, ℕ, Bool, true, List, Option, Some, None, slice_get}
use Rattle.std.specs.List.{list_any}
use Rattle.std.specs.Str.{bytes_eq}
use Rattle.route_json.specs.NumberedServers.{Addresses, texts}
use Rattle.serve_links.specs.declared.link.Link.{Link}
use Rattle.mcgate_serve.specs.declared.emptying.Emptying.{Emptying}

-- the name is one of these
abbrev pub is_among : List ℕ → Addresses → Bool
is_among name names = list_any (λ known. bytes_eq known name) names

-- the name of the server of this number is one of these
abbrev pub IsNamedAt : Addresses → Addresses → ℕ → Type 0
IsNamedAt names servers at = (name : List ℕ) × (slice_get servers at ≡ Some name) × (is_among name names ≡ true)

-- it is named as one that is to be emptied
abbrev pub IsDueAt : Option Emptying → Addresses → ℕ → Type 0
IsDueAt None servers at = ⊥
IsDueAt (Some emptying) servers at = IsNamedAt (texts emptying.names.items) servers at

-- of these links each that empties its server first did so before, or is that of a server of this kind
abbrev pub EmptiesOnly : (ℕ → Type 0) → List Link → List Link → Type 0
EmptiesOnly Is old new =
    (i : ℕ) (link : Link) → slice_get new i ≡ Some link → link.flushes ≡ true → ((was : Link) × (slice_get old i ≡ Some was) × (was.flushes ≡ true)) ⊎ Is i

-- the server of this number, if there is one, is emptied before its first call over its next connection
abbrev pub FlushesAt : ℕ → List Link → Type 0
FlushesAt at links = (link : Link) → slice_get links at ≡ Some link → link.flushes ≡ true
