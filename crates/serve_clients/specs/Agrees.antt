-- What a client's end has to do with the wire. Source: mcgate's own.
use Rattle.std.specs.Prelude.{◌≡◌, ℕ, Bool, true, false, List, [], IfSome}
use Rattle.std.specs.Option.{option_map}
use Rattle.wire_parts.specs.Sending.{bytes_of}
use Rattle.serve_wire.specs.Events.{WireEvent}
use Rattle.serve_wire.specs.Agreement.{ClientAgrees, ClientLost}
use Rattle.serve_clients.specs.declared.clients.Client.{Client}
use Rattle.serve_clients.specs.declared.clients.Clients.{Clients}
use Rattle.serve_clients.specs.Marks.{client_of}

-- what an end has to do with its connection: its number, what is held of it, what is to be sent, and whether it is broken off or has ended
abbrev pub end_said_of : Client → ℕ × List ℕ × List ℕ × Bool × Bool
end_said_of x = (x.conn.number, x.conn.held.items, bytes_of x.conn.unsent, x.is_broken, x.is_ended)

-- a client's end is broken off, for whatever cause: nothing is held of it and nothing is to be sent, and the rest is as it was
pub record Breaks (old new : Client) : Type 0 where
  pub none_held : new.conn.held.items ≡ []
  pub none_unsent : bytes_of new.conn.unsent ≡ []
  pub rest : new ≡ record old { conn = record old.conn { held = new.conn.held; unsent = new.conn.unsent }; is_ended = true; is_broken = true; leaves = new.leaves }

-- what is known of this client's input and output is what its connection delivered and took, but for what its end holds of both; of one that
-- is broken off it is the first of that, and nothing more is taken from it
pub record StateAgrees (h : List WireEvent) (input output : ℕ → List ℕ) (id conn : ℕ) (held unsent : List ℕ) (is_broken is_ended : Bool) : Type 0 where
  pub stands : is_broken ≡ false → ClientAgrees h input output id conn held unsent
  pub lost : is_broken ≡ true → ClientLost h input output id conn
  pub ended : is_broken ≡ true → (held ≡ []) × (is_ended ≡ true)

abbrev pub EndAgrees : List WireEvent → (ℕ → List ℕ) → (ℕ → List ℕ) → ℕ → Client → Type 0
EndAgrees h input output id x = StateAgrees h input output id x.conn.number x.conn.held.items (bytes_of x.conn.unsent) x.is_broken x.is_ended

-- whatever is known of the input and the output of a client, its end agrees with that still
abbrev pub GoesOnAgreeing : List WireEvent → List WireEvent → Client → Client → Type 0
GoesOnAgreeing h h' old new = (input output : ℕ → List ℕ) (id : ℕ) → EndAgrees h input output id old → EndAgrees h' input output id new

-- all clients' ends agree
abbrev pub AllAgree : List WireEvent → (ℕ → List ℕ) → (ℕ → List ℕ) → Clients → Type 0
AllAgree h input output clients = (id : ℕ) → IfSome (client_of clients id) (EndAgrees h input output id)

-- all clients have the ends that they had
abbrev pub KeepsEnds : Clients → Clients → Type 0
KeepsEnds old new = (id : ℕ) → option_map end_said_of (client_of new id) ≡ option_map end_said_of (client_of old id)
