-- The walk that is kept over the keys of the request at the front.
use Rattle.std.proofs.Common.{◌≡◌, ℕ, ◌+◌, ◌<◌, List, length, Option, Some, None, inl, inr, ap, sym, subst, ◌∙◌, arith}
use Rattle.std.specs.Prelude.{slice_get, Result, Ok, Err, OnOk, OnErr}
use Rattle.std.proofs.lemmas.Option.{slice_get_cases}
use Rattle.wire_classic.specs.Asks.{asks_taken}
use Rattle.mc_types.specs.declared.ask.Ask.{Ask}
use Rattle.wire_parts.specs.Stream.{Place, extended}
use Rattle.wire_parts.proofs.Streams.{one_message}
use Rattle.wire_stream.specs.declared.requests.reader.Read.TheVariants.{Request as Requests}
use Rattle.wire_stream.specs.declared.requests.request.Request.{Request}
use Rattle.wire_stream.specs.Both.{both_grammar}
use Rattle.wire_stream.specs.Message.{message_in, used_of}
use Rattle.wire_stream.specs.Asks.{asks_of, request_of, taken_of}
use Rattle.wire_stream.proofs.RequestLaws.{read_still, walk_still}
use Rattle.wire_stream.specs.Held.{bytes_at, IsReadAt}
use Rattle.wire_stream.specs.declared.connection.client_stream.Walk.{Walk}
use Rattle.wire_stream.specs.ClientStreams.{IsWalkAt, WalkIsKept}
use Rattle.wire_stream.proofs.Fronts.{front_is}

-- the walk that is kept at a place is kept there when more has come
pub still_kept : (place : Place) (more : List ℕ) (walk : Option Walk) → WalkIsKept place walk → WalkIsKept (extended place more) walk
still_kept place more None kept = kept
still_kept place more (Some walk) kept =
    let front = front_is place walk.request kept.read in
    let held = bytes_at place in
    subst (λ (p : Place). IsWalkAt (extended p more) walk) (sym front.stands) (record {
      read = (read_still held more walk.request front.read).0;
      asks = walk_still held more walk.asks kept.asks;
      request = kept.request;
      taken = kept.taken;
    })

-- the walk that is kept at a place is kept there after a piece, whether memory was refused for the piece or not
pub either_kept : {E : Type 0} (fed : Result (Unit {0}) E) (old new : Place) (more : List ℕ) (walk : Option Walk) → WalkIsKept old walk → OnOk fed (new ≡ extended old more) → OnErr fed (new ≡ old) → WalkIsKept new walk
either_kept (Ok done) old new more walk kept ok err = subst (λ (p : Place). WalkIsKept p walk) (sym ok) (still_kept old more walk kept)
either_kept (Err fault) old new more walk kept ok err = subst (λ (p : Place). WalkIsKept p walk) (sym err) kept

-- requests that are read at one place ask the same
pub same_asks : (place : Place) (r s : Request) → IsReadAt place (Requests r) → IsReadAt place (Requests s) → asks_of (message_in (bytes_at place) r) ≡ asks_of (message_in (bytes_at place) s)
same_asks place r s is so =
    let held = bytes_at place in
    let one = front_is place r is in
    let other = front_is place s so in
    ap asks_of (one_message both_grammar held (message_in held r) (message_in held s) (used_of r) (used_of s) one.read.begins other.read.begins).0

-- a list has an ask of each number below its length
pub ask_within : (xs : List Ask) (n : ℕ) → n < length xs → (ask : Ask) × (slice_get xs n ≡ Some ask)
ask_within xs n lt = elim (slice_get_cases xs n).1 [
  | inl found ↦ (found.0, found.2)
  | inr past ↦ absurd (omega (arith, lt, past.0))
]

-- where there is a next ask it is asks_taken
pub counted_one : (next : Option Ask) (xs : List Ask) (n : ℕ) → next ≡ slice_get xs n → n < length xs → asks_taken next n ≡ n + 1
counted_one next xs n is lt = ap (λ o. asks_taken o n) (is ∙ (ask_within xs n lt).1)

-- what a walk gives next is the ask that it stands at
pub next_is : (place : Place) (walk : Walk) (bytes : List ℕ) (next : Option Ask) → bytes ≡ bytes_at place → IsWalkAt place walk
    → next ≡ slice_get (asks_of (message_in bytes (request_of walk.asks))) (taken_of walk.asks)
    → next ≡ slice_get (asks_of (message_in (bytes_at place) walk.request)) walk.taken
next_is place walk bytes next held at is = is ∙ (λ i. slice_get (asks_of (message_in (held i) (at.request i))) (at.taken i))
