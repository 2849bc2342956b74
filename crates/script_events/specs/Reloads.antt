-- When reloads come, and whether they are refused. Source: mcgate's own.
use Rattle.std.specs.Prelude.{ℕ, ◌≤◌, Bool, false, List, [], ◌∷◌, length, Option, Some, None}
use Rattle.script_events.specs.declared.script.Reload.{Reload}

-- after the place each comes not before the one before it, none after the script's end, and each of its servers is there
abbrev pub ReloadsInOrder : ℕ → ℕ → ℕ → List Reload → Type 0
ReloadsInOrder end servers place [] = Unit {0}
ReloadsInOrder end servers place (r ∷ rs) = (place ≤ r.at) × (r.at ≤ end) × (length r.config.servers ≤ servers) × ReloadsInOrder end servers r.at rs

-- what isn't named isn't refused
abbrev pub is_refused : Option Bool → Bool
is_refused None = false
is_refused (Some refused) = refused
