-- Why the program stops, what it prints of that on standard error, and its exit statuses. Source: mcgate's own.
use Rattle.std.specs.Prelude.{ℕ, ◌++◌, List, codes, decimal, Option, Some, None, Result, Ok, Err}
use Rattle.clap.specs.declared.error.ErrorKind.{ErrorKind as RefusalKind}
use Rattle.clap.specs.declared.error.ErrorKind.TheVariants as refusal_kinds
use Rattle.script_events.specs.Limits.{last_turn}
use Rattle.mc_types.specs.declared.key.KeyFault.{KeyFault}
use Rattle.mc_types.specs.declared.key.KeyFault.TheVariants as keys
use Rattle.mcgate_args.specs.declared.arguments.ArgumentsFault.{ArgumentsFault}
use Rattle.mcgate_args.specs.declared.arguments.ArgumentsFault.TheVariants as arguments
use Rattle.mcgate_ends.specs.declared.ends.Stop.{Stop}
use Rattle.mcgate_ends.specs.declared.ends.Stop.TheVariants as stops

-- what a refusal of the arguments means: memory was refused, or the program has no such arguments
abbrev pub arguments_fault_at : RefusalKind → ArgumentsFault
arguments_fault_at refusal_kinds.OutOfMemory = arguments.NoMemory
arguments_fault_at _ = arguments.Refused

-- what a fault of the arguments means for the program
abbrev pub stop_of : ArgumentsFault → Stop
stop_of arguments.Refused = stops.Usage
stop_of (arguments.Key fault) = stops.Key fault
stop_of arguments.NoMemory = stops.Memory

-- the exit status of a stop
abbrev pub stop_status : Stop → ℕ
stop_status stops.Usage = 2
stop_status (stops.Key fault) = 1
stop_status stops.Memory = 3
stop_status stops.Device = 3
stop_status stops.Calls = 3

-- why a text is no key
abbrev pub key_fault_line : KeyFault → List ℕ
key_fault_line keys.Empty = codes "key: empty"
key_fault_line keys.TooLong = codes "key: longer than 250 bytes"
key_fault_line (keys.BadByte at) = codes "key: a space or a control character"

-- how many calls have a number, of which a script had more
abbrev pub calls_line : List ℕ
calls_line = codes "calls: more than " ++ decimal last_turn

-- the line on standard error of a stop
abbrev pub stop_line : Stop → List ℕ
stop_line stops.Usage = codes "usage: mcgate check, replay, serve, cache or loopback"
stop_line (stops.Key fault) = key_fault_line fault
stop_line stops.Memory = codes "memory: refused"
stop_line stops.Device = codes "device: failed"
stop_line stops.Calls = calls_line

-- the exit status, and the line on standard error if there is one
abbrev pub exit_of : Result ℕ Stop → ℕ × Option (List ℕ)
exit_of (Ok status) = (status, None)
exit_of (Err stop) = (stop_status stop, Some (stop_line stop))
