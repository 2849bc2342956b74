-- Each client's share of what may be held for all. Source: mcgate's own.
use Rattle.std.specs.Prelude.{ℕ, ◌-◌, ◌/◌, Bool, min, max, nat_lt, if◌then◌else◌}
use Rattle.serve_clients.specs.declared.clients.TheConstants.{SHARE}

-- three quarters of a number, and at most three more
abbrev pub three_quarters : ℕ → ℕ
three_quarters n = n - n / 4

-- how many bytes of replies each of so many clients may have before none of its commands begins, where so many may be held for all: its part of three quarters, where it is so
abbrev pub share_if : (is_scarce : Bool) → (most clients : ℕ) → ℕ
share_if is_scarce most clients = if is_scarce then min (max (three_quarters most / max clients 1) 1) SHARE else SHARE

-- where so many are held for all: its part of three quarters, once more than these are
abbrev pub share_by : (most held clients : ℕ) → ℕ
share_by most held clients = share_if (nat_lt (three_quarters most) held) most clients
