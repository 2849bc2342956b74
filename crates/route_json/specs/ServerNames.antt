-- Names of servers: an address, and the epoch that may follow it. Source: mcgate's own.
use Rattle.std.specs.Prelude.{ℕ, ◌^◌, ◌+◌, ◌&&◌, List, length, drop, nat_le, nat_eq, not, is_some, Bool, false, codes, Option, Some, None, if◌then◌else◌, slice_get}
use Rattle.std.specs.List.{list_any, starts_with}
use Rattle.std.specs.Str.{bytes_eq}
use Rattle.text_words.specs.Number.{number_below}
use Rattle.route_json.specs.Addresses.{around, is_address}
use Rattle.route_json.specs.NumberedServers.{Addresses}

-- 1 to 9 digits, the first of which isn't 0
abbrev pub is_epoch : List ℕ → Bool
is_epoch digits = nat_le (length digits) 9 && not (starts_with nat_eq digits (codes "0")) && is_some (number_below (2 ^ 32) digits)

-- what stands before `#` and an epoch, if the parts around the last `#` are such
abbrev pub address_or : List ℕ → Option (List ℕ × List ℕ) → List ℕ
address_or name None = name
address_or name (Some p) = if is_epoch p.1 then p.0 else name

-- the address in a server's name: what stands before `#` and an epoch, or all of it
abbrev pub address_in : List ℕ → List ℕ
address_in name = address_or name (around 35 name)

-- an address, behind which `#` and an epoch may stand
abbrev pub is_server_name : List ℕ → Bool
is_server_name name = is_address (address_in name)

-- one of these names has this address
abbrev pub is_named : List ℕ → Addresses → Bool
is_named address names = list_any (λ name. bytes_eq address (address_in name)) names

-- the server's epoch is over: a name after this one has its address
abbrev pub is_over_at : Option (List ℕ) → Addresses → Bool
is_over_at None later = false
is_over_at (Some name) later = is_named (address_in name) later

-- the epoch of the server of this number is over: one of a later number has its address
abbrev pub epoch_is_over : Addresses → ℕ → Bool
epoch_is_over names n = is_over_at (slice_get names n) (drop (n + 1) names)

-- an epoch stands behind the last `#`, where there is one
abbrev pub has_epoch_in : Option (List ℕ × List ℕ) → Bool
has_epoch_in None = false
has_epoch_in (Some p) = is_epoch p.1

-- the name has an epoch
abbrev pub has_epoch : List ℕ → Bool
has_epoch name = has_epoch_in (around 35 name)

-- one of these names has an epoch
abbrev pub have_epochs : Addresses → Bool
have_epochs names = list_any has_epoch names
