-- Limits of a pool's own, and those of its servers. Source: mcgate's own.
use Rattle.route_json.specs.declared.limits.TheConstants.{MAX_LIMIT}
use Rattle.route_json.specs.declared.limits.ServerLimits.{ServerLimits}
use Rattle.std.specs.Prelude.{ℕ, ◌&&◌, List, [], ◌∷◌, codes, nat_lt, nat_le, is_some, Bool, true, false, Option, Some, None, option_and_then, Result, Ok, Err, if◌then◌else◌}
use Rattle.std.specs.List.{list_any}
use Rattle.std.specs.Str.{bytes_eq}
use Rattle.serde_json.specs.Data.{Data, string, array, object}
use Rattle.serde_json.specs.Find.{as_number, as_u64, get}
use Rattle.route_json.specs.Fault.{Fault, BadField}
use Rattle.route_json.specs.Reading.{values, members}
use Rattle.route_json.specs.ServerTexts.{server_in}

-- 1 up to the greatest limit
abbrev pub limit_within : Option ℕ → Option ℕ
limit_within None = None
limit_within (Some n) = if nat_lt 0 n && nat_le n MAX_LIMIT then Some n else None

-- the limit that a value is, if it is one
abbrev pub limit_of : Data → Option ℕ
limit_of d = limit_within (option_and_then as_u64 (as_number d))

-- it is left out, or a limit
abbrev pub is_limit : Option Data → Bool
is_limit None = true
is_limit (Some d) = is_some (limit_of d)

-- the limit in a field, if there is one
abbrev pub limit_in : Option Data → Option ℕ
limit_in None = None
limit_in (Some d) = limit_of d

-- in each field of these names stands a limit, or it is left out; the first that is neither is at fault
abbrev pub limits_or : List (List ℕ) → Data → Result (Unit {0}) Fault
limits_or [] d = Ok tt
limits_or (name ∷ names) d = if is_limit (get name d) then limits_or names d else Err (BadField name)

-- what a pool's object says
abbrev pub limits_in : Data → ServerLimits
limits_in d = record {
  call_ms = limit_in (get (codes "call_ms") d);
  connect_ms = limit_in (get (codes "connect_ms") d);
  fail_limit = limit_in (get (codes "fail_limit") d);
  retry_ms = limit_in (get (codes "retry_ms") d);
}

-- no limit is said
abbrev pub no_limits : ServerLimits
no_limits = record { call_ms = None; connect_ms = None; fail_limit = None; retry_ms = None }

-- the lesser of two limits, of which each may be none
abbrev pub lesser_limit : Option ℕ → Option ℕ → Option ℕ
lesser_limit None b = b
lesser_limit (Some a) None = Some a
lesser_limit (Some a) (Some b) = Some (if nat_le a b then a else b)

-- of each limit the lesser
abbrev pub least_limits : ServerLimits → ServerLimits → ServerLimits
least_limits a b = record {
  call_ms = lesser_limit a.call_ms b.call_ms;
  connect_ms = lesser_limit a.connect_ms b.connect_ms;
  fail_limit = lesser_limit a.fail_limit b.fail_limit;
  retry_ms = lesser_limit a.retry_ms b.retry_ms;
}

-- a server of this name is what a text says
abbrev pub is_server : List ℕ → Option (List ℕ × ℕ) → Bool
is_server name None = false
is_server name (Some s) = bytes_eq s.0 name

-- a value of a pool's list names this server
abbrev pub names : List ℕ → Data → Bool
names name (string text) = is_server name (server_in text)
names name _ = false

-- one of the list in a field does
abbrev pub lists_in : List ℕ → Option Data → Bool
lists_in name (Some (array ds)) = list_any (names name) (values ds)
lists_in name _ = false

-- a pool's object lists this server
abbrev pub lists : List ℕ → Data → Bool
lists name d = lists_in name (get (codes "servers") d)

-- what a pool's object says of this server
abbrev pub limits_said_by : List ℕ → Data → ServerLimits
limits_said_by name d = if lists name d then limits_in d else no_limits

-- what was said, and by these pools after it: of each limit the least
abbrev pub limits_said_after : List ℕ → ServerLimits → List (List ℕ × Data) → ServerLimits
limits_said_after name said [] = said
limits_said_after name said (m ∷ ms) = limits_said_after name (least_limits said (limits_said_by name m.1)) ms

-- what these pools say of this server
abbrev pub limits_said : List (List ℕ × Data) → List ℕ → ServerLimits
limits_said pools name = limits_said_after name no_limits pools

-- the pools of a field
abbrev pub pools_said_in : Option Data → List (List ℕ × Data)
pools_said_in (Some (object ms)) = members ms
pools_said_in _ = []

-- the pools of a configuration
abbrev pub pools_said : Data → List (List ℕ × Data)
pools_said d = pools_said_in (get (codes "pools") d)
