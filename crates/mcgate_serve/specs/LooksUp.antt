-- Which addresses a proxy asked for. Source: mcgate's own.
use Rattle.std.specs.Prelude.{◌≡◌, ℕ, ◌≤◌, List, Some, slice_get}
use Rattle.serve_wire.specs.Events.{WireEvent, looks_up}
use Rattle.serve_links.specs.Story.{HasHappened}
use Rattle.route_json.specs.Servers.{Addresses}

-- from the server of this number on, each one's text was asked for
abbrev pub AreLookedUp : ℕ → Addresses → List WireEvent → Type 0
AreLookedUp from servers h = (at : ℕ) (text : List ℕ) → from ≤ at → slice_get servers at ≡ Some text → HasHappened (looks_up text) h
