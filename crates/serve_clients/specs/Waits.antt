-- When what is to be sent to a client waits for a turn. Source: mcgate's own.
use Rattle.std.specs.Prelude.{Bool, not, ◌&&◌, nat_lt, length}
use Rattle.wire_parts.specs.Sending.{bytes_of}
use Rattle.serve_clients.specs.declared.clients.TheConstants.{HELD_BACK}
use Rattle.serve_clients.specs.declared.clients.Client.{Client}

-- it didn't wait in the turn before, calls of the client are out, and few bytes are to be sent
abbrev pub waits_a_turn : Client → Bool
waits_a_turn x = not x.is_held_back && not x.is_ended && nat_lt 0 x.calls_out && nat_lt (length (bytes_of x.conn.unsent)) HELD_BACK
