-- What stands at a client's front, and when nothing can be done there.
use Rattle.std.proofs.Common.{◌≡◌, ◌↔◌, ℕ, ◌<◌, ◌≤◌, Bool, true, false, List, [], ◌∷◌, length, drop, Some, inl, inr, refl, sym, ap, ◌∙◌, subst, slice_get, arith}
use Rattle.std.specs.Prelude.{◌⊎◌}
use Rattle.std.proofs.lemmas.Option.{slice_get_within}
use Rattle.mc_types.specs.declared.ask.Ask.{Ask}
use Rattle.fresh_runs.specs.Log.{Part}
use Rattle.fresh_runs.specs.Overlap.{IsNext}
use Rattle.wire_parts.specs.Message.{Refusal}
use Rattle.wire_parts.specs.Stream.{Place, Closed}
use Rattle.wire_stream.specs.declared.requests.reader.Read.{Read}
use Rattle.wire_stream.specs.declared.requests.reader.Read.TheVariants as reads
use Rattle.wire_stream.specs.declared.requests.request.Request.{Request}
use Rattle.wire_stream.specs.Message.{message_in}
use Rattle.wire_stream.specs.Asks.{asks_of}
use Rattle.wire_stream.specs.Stream.{after_any}
use Rattle.wire_stream.specs.Held.{bytes_at, IsReadAt}
use Rattle.wire_stream.specs.TextProtocol.{Said, Whole, LongLine, OtherProtocol, ReadsNext, asks_in}
use Rattle.wire_stream.proofs.ReaderLaws.{reader_is}
use Rattle.wire_stream.specs.Fronts.{AsksNone}
use Rattle.wire_stream.proofs.Fronts.{read_front, refused_is_some, long_is_some, other_is_some, more_stuck, front_is, reads_front}
use Rattle.core_client.specs.declared.client.Client.{Client}
use Rattle.core_client.specs.declared.client.Pending.{Pending}
use Rattle.core_client.specs.ClientState.{dialect, front_by}
use Rattle.core_client.specs.Nexts.{IsLater}

-- the message that was read
abbrev pub IsRead : Place → Read → Said → Type 0
IsRead place reads.More message = ⊥
IsRead place reads.TooLong message = message ≡ LongLine
IsRead place reads.OtherProtocol message = message ≡ OtherProtocol
IsRead place (reads.Refused why used skip) message = message ≡ Whole (Refusal why skip)
IsRead place (reads.Request request) message = message ≡ Whole (message_in (bytes_at place) request)

-- the message that was read is the one at the front
pub is_read : (place : Place) (read : Read) → IsReadAt place read → (message : Said) (next : Place) → ReadsNext place message next → IsRead place read message
is_read place reads.More is message next here = more_stuck place is message next here
is_read place reads.TooLong is message next here =
    let f = read_front place reads.TooLong is long_is_some in
    (reader_is.one_message place message LongLine next Closed here (subst (λ (p : Place). ReadsNext p LongLine Closed) (sym f.1) (f.2.0, refl, f.2.1))).0
is_read place reads.OtherProtocol is message next here =
    let f = read_front place reads.OtherProtocol is other_is_some in
    (reader_is.one_message place message OtherProtocol next Closed here (subst (λ (p : Place). ReadsNext p OtherProtocol Closed) (sym f.1) (f.2, refl))).0
is_read place (reads.Refused why used skip) is message next here =
    let f = read_front place (reads.Refused why used skip) is (refused_is_some why used skip) in
    let after : Place = after_any (Refusal why skip) (drop used f.0) in
    (reader_is.one_message place message (Whole (Refusal why skip)) next after here (subst (λ (p : Place). ReadsNext p (Whole (Refusal why skip)) after) (sym f.1) (used, f.2.0, refl, f.2.1))).0
is_read place (reads.Request request) is message next here = (reader_is.one_message place message (Whole (message_in (bytes_at place) request)) next _ here (reads_front place request (front_is place request is))).0

no_ask : {A : Type 0} (asks : List Ask) (i : ℕ) (ask : Ask) → asks ≡ [] → slice_get asks i ≡ Some ask → A
no_ask asks i ask none at = absurd (let lt = slice_get_within asks i ask at in let e = ap length none in omega (arith, lt, e))

-- what asks no server has no key
pub none_asked : (place : Place) (read : Read) → IsReadAt place read → AsksNone place read → (message : Said) (next : Place) → ReadsNext place message next → asks_in message ≡ []
none_asked place read is none message next here = by read none (is_read place read is message next here)
  where
    by : (read : Read) → AsksNone place read → IsRead place read message → asks_in message ≡ []
    by reads.More none e = absurd none
    by reads.TooLong none e = ap asks_in e
    by reads.OtherProtocol none e = ap asks_in e
    by (reads.Refused why used skip) none e = ap asks_in e
    by (reads.Request request) none e = ap asks_in e ∙ none

-- no key is at the front where no message is, or one that asks no server
pub no_key : (x : Client) (read : Read) {A : Type 0} → IsReadAt x.stream read → AsksNone x.stream read → (i : ℕ) (message : Said) (next : Place) (ask : Ask) → ReadsNext x.stream message next → slice_get (asks_in message) i ≡ Some ask → A
no_key x read is none i message next ask here at = no_ask (asks_in message) i ask (none_asked x.stream read is none message next here) at

-- no key is at the front where the request there has no more keys than were asked
pub no_more_keys : (x : Client) (request : Request) {A : Type 0} → IsReadAt x.stream (reads.Request request) → length (asks_of (message_in (bytes_at x.stream) request)) ≤ x.index
    → (message : Said) (next : Place) (ask : Ask) → ReadsNext x.stream message next → slice_get (asks_in message) x.index ≡ Some ask → A
no_more_keys x request is few message next ask here at =
    absurd (let e = ap asks_in (is_read x.stream (reads.Request request) is message next here) in
    let lt = slice_get_within (asks_of (message_in (bytes_at x.stream) request)) x.index ask (ap (λ l. slice_get l x.index) (sym e) ∙ at) in omega (arith, lt, few))

-- nothing stands at the front
pub later_none : (x : Client) → IsReadAt x.stream reads.More → (depth : ℕ) → IsLater depth x
later_none x is depth = record { key = λ part n. absurd (more_stuck x.stream is part.message part.next n.reads); other = λ message next here none. absurd (more_stuck x.stream is message next here) }

-- what asks no server stands after a command
pub later_other : (x : Client) (read : Read) → IsReadAt x.stream read → AsksNone x.stream read → 0 < length x.queue.items → (depth : ℕ) → IsLater depth x
later_other x read is none some depth = record { key = λ part n. no_key x read is none part.index part.message part.next part.ask n.reads n.asks; other = λ message next here none. some }

-- a request with keys, of which none can begin
pub later_key : (x : Client) (request : Request) (depth : ℕ) → IsReadAt x.stream (reads.Request request) → (asks_of (message_in (bytes_at x.stream) request) ≡ [] → ⊥)
    → (x.waits ≡ true) ⊎ ((depth ≤ length x.queue.items) ⊎ (length (asks_of (message_in (bytes_at x.stream) request)) ≤ x.index)) → IsLater depth x
later_key x request depth is some why =
    record {
      key = λ part n. by part n why;
      other = λ message next here none. absurd (some (sym (ap asks_in (is_read x.stream (reads.Request request) is message next here)) ∙ none));
    }
  where
    by : (part : Part dialect) → IsNext (front_by (Some x)) part → (x.waits ≡ true) ⊎ ((depth ≤ length x.queue.items) ⊎ (length (asks_of (message_in (bytes_at x.stream) request)) ≤ x.index)) → depth ≤ length x.queue.items
    by part n (inl waits) = absurd (let e = n.ready in cc)
    by part n (inr (inl full)) = full
    by part n (inr (inr few)) = no_more_keys x request is few part.message part.next part.ask n.reads (ap (λ i. slice_get (asks_in part.message) i) (sym n.index) ∙ n.asks)

-- a queue that isn't empty
pub not_free : (b : Bool) (items : List Pending) → (b ≡ true ↔ (items ≡ [])) → b ≡ false → 0 < length items
not_free b [] h e = absurd (let t = h.1 refl in cc)
not_free b (x ∷ items) h e = omega arith
