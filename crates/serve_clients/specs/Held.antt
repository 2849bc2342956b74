-- How many bytes are held for a client, whoever else there is. Source: mcgate's own.
use Rattle.std.specs.Prelude.{ℕ, ◌+◌, ◌-◌, ◌^◌, min, nat_eq, length, List, Option, Some, None, if◌then◌else◌, slice_get}
use Rattle.std.specs.Option.{option_flatten}
use Rattle.wire_parts.specs.Sending.{bytes_of}
use Rattle.serve_clients.specs.declared.clients.Client.{Client}

-- how many bytes of answers to its gets wait to be shown, at most: none once none of its calls is out
abbrev pub unshown : Client → ℕ
unshown x = if nat_eq x.calls_out 0 then 0 else x.answered

-- how many bytes of replies are held for it: to be sent, and to be shown
abbrev pub reply_bytes : Client → ℕ
reply_bytes x = length (bytes_of x.conn.unsent) + unshown x

-- how many bytes are held for it, so far as they can be counted: of what it sent, and of replies; of one that is broken off none
abbrev pub held_for : Client → ℕ
held_for x = if x.is_broken then 0 else min (length x.conn.held.items + reply_bytes x + x.input) (2 ^ 64 - 1)

abbrev pub held_of : Option Client → ℕ
held_of None = 0
held_of (Some x) = held_for x

-- and for who stands at a place
abbrev pub held_in : List (Option Client) → ℕ → ℕ
held_in all id = held_of (option_flatten (slice_get all id))
