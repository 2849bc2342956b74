-- How many bytes are held for a client, and when one of its commands may begin. Source: mcgate's own.
pub use Rattle.serve_clients.specs.Held.{unshown, reply_bytes, held_for, held_of}
use Rattle.std.specs.Prelude.{◌≡◌, ◌⊎◌, [], false, ℕ, ◌<◌, min, nat_eq, if◌then◌else◌}
use Rattle.wire_parts.specs.Sending.{bytes_of}
use Rattle.serve_clients.specs.declared.clients.Client.{Client}
use Rattle.serve_clients.specs.declared.clients.Clients.{Clients}
use Rattle.serve_clients.specs.Marks.{client_of}

-- a command of it may begin where so many bytes of replies are its share: none of its calls waits for a server, and less is held
abbrev pub MayBegin : ℕ → Client → Type 0
MayBegin share x = (x.waiting ≡ 0) × (reply_bytes x < share)

-- one of its commands may go on, as a call of it was settled, or begin
abbrev pub MayGoOn : ℕ → Client → Type 0
MayGoOn share x = (0 < x.settled) ⊎ MayBegin share x

-- nothing of it is under way: no call waits, is out or was settled just now, nothing that came waits, nothing is to be sent, and all was read
abbrev pub ClientIsQuiet : Client → Type 0
ClientIsQuiet x = (x.waiting ≡ 0) × (x.calls_out ≡ 0) × (x.settled ≡ 0) × (x.conn.held.items ≡ []) × (bytes_of x.conn.unsent ≡ []) × (x.conn.readable ≡ false)

-- how many bytes of what it sent the core holds at most, when one of its commands went on or began: one that begins is the end of a message, behind which stands only what came last
abbrev pub input_left : Client → ℕ
input_left x = if nat_eq x.settled 0 then min x.input x.fed else x.input

abbrev pub held_at : Clients → ℕ → ℕ
held_at clients id = held_of (client_of clients id)
