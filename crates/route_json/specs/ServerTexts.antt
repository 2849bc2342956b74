-- Texts of servers: a name, and the weight that may follow it. Source: mcgate's own, in the form of twemproxy's `host:port:weight`.
use Rattle.route_json.specs.declared.addresses.server_text.TheConstants.{MAX_WEIGHT}
use Rattle.std.specs.Prelude.{ℕ, ◌^◌, ◌==◌, ◌&&◌, ◌||◌, List, length, nat_lt, nat_le, nat_eq, not, Bool, false, codes, Option, Some, None, if◌then◌else◌}
use Rattle.std.specs.List.{list_any, starts_with, ends_with}
use Rattle.text_words.specs.Number.{number_below}
use Rattle.route_json.specs.Addresses.{around_colon}
use Rattle.route_json.specs.ServerNames.{is_server_name}

abbrev pub is_colon : ℕ → Bool
is_colon b = b == 58

-- not empty and without colons
abbrev pub is_without_colons : List ℕ → Bool
is_without_colons h = nat_lt 0 (length h) && not (list_any is_colon h)

-- begins with `[` and ends with `]`
abbrev pub is_in_brackets : List ℕ → Bool
is_in_brackets h = starts_with nat_eq h (codes "[") && ends_with nat_eq h (codes "]")

-- a host that a port and a weight may follow
abbrev pub is_host : List ℕ → Bool
is_host h = is_without_colons h || is_in_brackets h

-- a host that a port and a weight may follow stands before the colon
abbrev pub begins_with_host : Option (List ℕ × List ℕ) → Bool
begins_with_host None = false
begins_with_host (Some p) = is_host p.0

-- the parts around the last colon, where what stands before it is such a host, a colon and a port
abbrev pub parts_or : Option (List ℕ × List ℕ) → Option (List ℕ × List ℕ)
parts_or None = None
parts_or (Some p) = if begins_with_host (around_colon p.0) then Some p else None

-- `H:P` and `W` of a text `H:P:W`
abbrev pub weighted_parts : List ℕ → Option (List ℕ × List ℕ)
weighted_parts text = parts_or (around_colon text)

-- 1 up to the greatest weight
abbrev pub weight_within : Option ℕ → Option ℕ
weight_within None = None
weight_within (Some n) = if nat_lt 0 n && nat_le n MAX_WEIGHT then Some n else None

-- a weight of 1 or 2 digits
abbrev pub weight_of : List ℕ → Option ℕ
weight_of digits = if nat_le (length digits) 2 then weight_within (number_below (2 ^ 32) digits) else None

-- this name with this weight, if it is a server's name and there is a weight
abbrev pub with_weight : List ℕ → Option ℕ → Option (List ℕ × ℕ)
with_weight a None = None
with_weight a (Some w) = if is_server_name a then Some (a, w) else None

-- the name and the weight of the parts of a text `H:P:W`, if they are such; every other text is a name of weight 1
abbrev pub weighted_or : List ℕ → Option (List ℕ × List ℕ) → Option (List ℕ × ℕ)
weighted_or text None = with_weight text (Some 1)
weighted_or text (Some p) = with_weight p.0 (weight_of p.1)

-- the name and the weight that a server's text says
abbrev pub server_in : List ℕ → Option (List ℕ × ℕ)
server_in text = weighted_or text (weighted_parts text)
