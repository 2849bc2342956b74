-- Addresses of servers: a host and a port, or a path. Source: mcgate's own; of paths, unix(7), "Address format".
use Rattle.std.specs.Prelude.{ℕ, ◌^◌, ◌==◌, ◌&&◌, ◌||◌, List, [], ◌∷◌, length, nat_eq, nat_lt, nat_le, codes, Bool, false, Option, Some, None, if◌then◌else◌}
use Rattle.std.specs.List.{list_all, starts_with}
use Rattle.std.specs.Str.{bytes_eq}
use Rattle.text_words.specs.Number.{number_below}

-- a byte that an address may have
abbrev pub is_printable : ℕ → Bool
is_printable b = nat_lt 32 b && nat_lt b 127

-- the parts around a sign: one further on, or here
abbrev pub sign_or : ℕ → Option (List ℕ × List ℕ) → ℕ → List ℕ → Option (List ℕ × List ℕ)
sign_or sign (Some p) x xs = Some (x ∷ p.0, p.1)
sign_or sign None x xs = if x == sign then Some ([], xs) else None

-- what stands before the last of these signs and what stands after it, where there is one
abbrev pub around : ℕ → List ℕ → Option (List ℕ × List ℕ)
around sign [] = None
around sign (x ∷ xs) = sign_or sign (around sign xs) x xs

-- the parts around the last colon
abbrev pub around_colon : List ℕ → Option (List ℕ × List ℕ)
around_colon = around 58

-- 1..=65535
abbrev pub is_port_number : Option ℕ → Bool
is_port_number None = false
is_port_number (Some n) = nat_lt 0 n && nat_lt n 65536

-- a port of 1 to 5 digits
abbrev pub is_port : List ℕ → Bool
is_port digits = nat_le (length digits) 5 && is_port_number (number_below (2 ^ 32) digits)

-- something before a colon and a port after it
abbrev pub is_host_and_port : Option (List ℕ × List ℕ) → Bool
is_host_and_port None = false
is_host_and_port (Some p) = nat_lt 0 (length p.0) && is_port p.1

-- `unix`, and a path from the root on of 2 to 107 bytes, after the last colon: a socket of this machine
abbrev pub is_path : Option (List ℕ × List ℕ) → Bool
is_path None = false
is_path (Some p) = bytes_eq p.0 (codes "unix") && starts_with nat_eq p.1 (codes "/") && nat_lt 1 (length p.1) && nat_le (length p.1) 107

-- 3 to 255 bytes, each 33..=126, with a port after the last colon and something before it, or a path after `unix:`
abbrev pub is_address : List ℕ → Bool
is_address a = nat_le 3 (length a) && nat_le (length a) 255 && list_all is_printable a && (is_host_and_port (around_colon a) || is_path (around_colon a))
