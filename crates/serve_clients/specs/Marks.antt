-- The clients by their ids, and the lists of those that are marked. Source: mcgate's own.
use Rattle.std.specs.Prelude.{◌≡◌, ℕ, ◌+◌, ◌-◌, ◌/◌, ◌^◌, min, max, Bool, true, false, not, ◌||◌, ◌&&◌, nat_eq, length, List, [], ◌∷◌, ◌++◌, Option, Some, None, if◌then◌else◌, slice_get, slice_set, Contains}
use Rattle.std.specs.Option.{option_map, option_flatten}
use Rattle.wire_parts.specs.Sending.{bytes_of}
use Rattle.serve_wire.specs.declared.outcomes.Ready.{Ready}
use Rattle.serve_clients.specs.declared.clients.Client.{Client}
use Rattle.serve_clients.specs.declared.clients.Clients.{Clients}
use Rattle.serve_clients.specs.declared.clients.Marking.TheVariants as marks

-- the client of this id, if there is one
abbrev pub client_of : Clients → ℕ → Option Client
client_of clients id = option_flatten (slice_get clients.all.items id)

-- the client of this id, if there is one, is changed so, and no other
abbrev pub Changes : (Client → Client) → ℕ → Clients → Clients → Type 0
Changes change id old new = new.all.items ≡ slice_set old.all.items id (option_map change (client_of old id))

-- both have the same clients, and the same ids in each list
pub record AreAlike (old new : Clients) : Type 0 where
  pub clients : new.all.items ≡ old.all.items
  pub ready : new.ready.items ≡ old.ready.items
  pub with_output : new.with_output.items ≡ old.with_output.items
  pub busy : new.busy.items ≡ old.busy.items
  pub short : new.is_short ≡ old.is_short

-- these ids, and at their end this one, where its client is there and its flag isn't set
abbrev pub ids_with : (Client → Bool) → Option Client → ℕ → List ℕ → List ℕ
ids_with flag None id ids = ids
ids_with flag (Some client) id ids = if flag client then ids else ids ++ id ∷ []

-- these ids, and where `is` holds, at their end this one, where its client is there and its flag isn't set
abbrev pub ids_if : Bool → (Client → Bool) → Option Client → ℕ → List ℕ → List ℕ
ids_if is flag client id ids = if is then ids_with flag client id ids else ids

-- there is a client, and it isn't ready
abbrev pub client_is_idle : Option Client → Bool
client_is_idle None = false
client_is_idle (Some client) = not client.is_ready

-- the client with one of its flags set, or not
abbrev pub with_ready : Bool → Client → Client
with_ready flag x = record x { is_ready = flag }

abbrev pub with_unsent : Bool → Client → Client
with_unsent flag x = record x { has_output = flag }

abbrev pub with_busy : Bool → Client → Client
with_busy flag x = record x { is_busy = flag }

-- the client after one of its calls was settled
abbrev pub one_settled : Client → Client
one_settled x = record x { settled = min (x.settled + 1) (2 ^ 64 - 1); calls_out = x.calls_out - 1 }

-- how many bytes were expected of the answer to its next get, if one was answered before
abbrev pub expected : Option ℕ → ℕ
expected None = 0
expected (Some len) = len

-- the client when one of its gets was answered by so many bytes, which aren't shown yet: so many are expected of the next answer, or a quarter of what was expected of this one
abbrev pub one_got : ℕ → Client → Client
one_got len x = record x { expects = Some (max len (expected x.expects / 4)); answered = min (x.answered + len) (2 ^ 64 - 1) }

-- the client after one of its calls, a get or not, was settled by an answer of so many bytes
abbrev pub one_answered : Bool → ℕ → Client → Client
one_answered is_get len x = if is_get then one_settled (one_got len x) else one_settled x

-- the client after one of its calls began to wait for a server, and after one waits no longer
abbrev pub one_waits : Client → Client
one_waits x = record x { waiting = min (x.waiting + 1) (2 ^ 64 - 1) }

abbrev pub one_waited : Client → Client
one_waited x = record x { waiting = x.waiting - 1 }

-- something is to be sent to it
abbrev pub has_unsent : Client → Bool
has_unsent x = not (nat_eq (length (bytes_of x.conn.unsent)) 0)

-- by what the system told, something can be sent to the client, and is there
abbrev pub will_send : Ready → Option Client → Bool
will_send told None = false
will_send told (Some x) = told.writes && has_unsent x

-- the client with what the system told of its socket, beside what it told before
abbrev pub with_told : Ready → Client → Client
with_told told x = record x { conn = record x.conn { readable = x.conn.readable || told.reads; writable = x.conn.writable || told.writes; closing = x.conn.closing || told.closes } }

-- the client, to be served where it is so
abbrev pub ready_if : Bool → Client → Client
ready_if reads x = if reads then with_ready true x else x

abbrev pub unsent_if : Bool → Client → Client
unsent_if writes x = if writes then with_unsent true x else x

-- the client after what the system told was noted: where something can be read it is to be served, and where something can be sent and is there it has something to send
abbrev pub noted : Ready → Client → Client
noted told x = unsent_if (told.writes && has_unsent x) (ready_if told.reads (with_told told x))

-- each client of these ids is busy no longer, and no other is changed
pub record EndsBusy (ids : List ℕ) (old new : Clients) : Type 0 where
  pub these : (id : ℕ) → Contains ids id → client_of new id ≡ option_map (with_busy false) (client_of old id)
  pub others : (id : ℕ) → ¬ Contains ids id → client_of new id ≡ client_of old id

-- a client stands there that is marked so
abbrev pub is_marked : marks.the_data → Option Client → Bool
is_marked mark None = false
is_marked marks.Ready (Some x) = x.is_ready
is_marked marks.Unsent (Some x) = x.has_output
is_marked marks.Busy (Some x) = x.is_busy

-- whoever is marked so stands among these ids
abbrev pub HasMarked : marks.the_data → List (Option Client) → List ℕ → Type 0
HasMarked mark all ids = (id : ℕ) → is_marked mark (option_flatten (slice_get all id)) ≡ true → Contains ids id

-- each list has all that are marked for it
pub record AreListed (clients : Clients) : Type 0 where
  pub ready : HasMarked marks.Ready clients.all.items clients.ready.items
  pub with_output : HasMarked marks.Unsent clients.all.items clients.with_output.items
  pub busy : HasMarked marks.Busy clients.all.items clients.busy.items
