-- How far a script's servers go. Source: mcgate's own.
use Rattle.std.specs.Prelude.{ℕ, ◌-◌, ◌^◌}
use Rattle.script_events.specs.declared.servers.servers.TheConstants.{CAPACITY}

-- calls are numbered up to here
abbrev pub last_turn : ℕ
last_turn = 2 ^ 64 - 1

-- how many items each server holds at most
abbrev pub capacity : ℕ
capacity = CAPACITY
