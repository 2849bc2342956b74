-- When an item is gone. Source: memcached's protocol.txt, "Expiration times".
use Rattle.cache_server.specs.declared.expiry.TheConstants.{RELATIVE_LIMIT}
use Rattle.std.specs.Prelude.{ℕ, ◌+◌, ◌-◌, ◌^◌, ℤ, pos, negsuc, min, Bool, false, Option, Some, None, nat_le, ◌==◌, if◌then◌else◌}

-- up to 30 days are seconds from now
abbrev pub relative_limit : ℕ
relative_limit = RELATIVE_LIMIT

-- the last moment, in seconds
abbrev pub last_moment : ℕ
last_moment = 2 ^ 63 - 1

-- the moment of an exptime: 0 never comes, a negative one has come already, a great one is a Unix moment
abbrev pub moment_of : ℕ → ℤ → Option ℕ
moment_of now (negsuc n) = Some 0
moment_of now (pos n) = if n == 0 then None else if nat_le n relative_limit then Some (min (now + n) last_moment) else Some n

-- the expiry that an ask sets; an ask without an exptime lets it stay
abbrev pub expiry_after : ℕ → Option ℤ → Option ℕ → Option ℕ
expiry_after now None before = before
expiry_after now (Some exptime) before = moment_of now exptime

-- the expiry is at or before now
abbrev pub has_come : ℕ → Option ℕ → Bool
has_come now None = false
has_come now (Some expiry) = nat_le expiry now

-- the seconds until an expiry, 0 where it has come; -1 for never (memcached's protocol.txt, "Meta Get", the flag t)
abbrev pub ttl_of : ℕ → Option ℕ → ℤ
ttl_of now None = negsuc 0
ttl_of now (Some expiry) = pos (expiry - now)
