-- Servers by their addresses. Source: mcgate's own.
use Rattle.route_json.specs.declared.addresses.servers.TheConstants.{MAX_SERVERS}
use Rattle.std.specs.Prelude.{◌≡◌, ℕ, ◌≤◌, List, [], ◌∷◌, ◌++◌, length, false, String, string_bytes, map}
use Rattle.std.specs.List.{list_any}
use Rattle.std.specs.Str.{bytes_eq}
use Rattle.std.specs.declared.alloc.Global.{Global}

-- addresses; a server's number is its place among them
abbrev pub Addresses : Type 0
Addresses = List (List ℕ)

-- the texts of a list of strings
abbrev pub texts : List (String Global) → Addresses
texts = map string_bytes

-- each of these stands neither among those before it nor in the first list
abbrev pub AreNew : Addresses → Addresses → Type 0
AreNew known [] = Unit {0}
AreNew known (a ∷ as_left) = (list_any (bytes_eq a) known ≡ false) × AreNew (known ++ a ∷ []) as_left

-- no address stands twice, and there are no more than a number of 32 bits tells apart
pub record AreServers (known : Addresses) : Type 0 where
  pub distinct : AreNew [] known
  pub few : length known ≤ MAX_SERVERS
