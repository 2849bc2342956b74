-- The asks of a message, one after another.
use Rattle.std.proofs.Common.{◌≡◌, ℕ, ℤ, ◌+◌, ◌<◌, ◌≤◌, ◌⊎◌, Bool, true, false, List, [], ◌∷◌, ◌++◌, length, drop, Option, Some, Result, Ok, Err, OnOk, OnErr, inl, inr, refl, sym, ap, ◌∙◌, subst, arith, slice_get, ◌||◌, nat_eq}
use Rattle.std.proofs.lemmas.Bool.{eq-eqb, cases_eq}
use Rattle.mc_types.specs.declared.ask.Ask.{Ask}
use Rattle.mc_types.specs.declared.answer.Answer.{Answer}
use Rattle.wire_parts.specs.declared.skip.Skip.TheVariants.{Nothing}
use Rattle.wire_parts.specs.Stream.{Place, Stands, Closed, extended}
use Rattle.wire_stream.specs.declared.requests.request.Request.{Request}
use Rattle.wire_stream.specs.Message.{AnyMessage, message_in, used_of}
use Rattle.wire_stream.specs.Asks.{asks_of, quiet_of}
use Rattle.wire_stream.specs.Stream.{after_any}
use Rattle.wire_stream.specs.Held.{bytes_at}
use Rattle.wire_stream.specs.Replies.{is_failure, is_last_ask, shown_text}
use Rattle.wire_stream.specs.TextProtocol.{Said, Whole, ReadsNext, asks_in, shown_by, shown_of, ends_at}
use Rattle.wire_stream.specs.Fronts.{RequestIsFront}
use Rattle.wire_stream.proofs.ConnectionRequests.{request_after}
use Rattle.wire_stream.proofs.Fronts.{reads_front}
use Rattle.wire_stream.proofs.ReaderLaws.{reader_is}
use Rattle.cache_server.specs.Contents.{Contents}
use Rattle.cache_tcp.specs.ConnectionServing.{AnswersAsk}
use Rattle.cache_tcp.specs.Serving.{IsServed}
use Rattle.cache_tcp.specs.Steps.{message_at, Spot, spot_at, IsOnWay, IsAnsweredSoFar, IsAskOf, IsKeyOf, StopsAtAsk, StopsNext, place_by, ShowsNextReply, ServesNext}

-- the reply was written, and the message is done or not
pub shows_next : (place place' : Place) (request : Request) (i : ℕ) (ask : Ask) (reply : Answer) (unsent unsent' : List ℕ) (used : ℕ) (quiet last ended : Bool)
    → used ≡ used_of request → IsAskOf place request i ask → quiet ≡ quiet_of (message_at place request) → last ≡ is_last_ask (asks_of (message_at place request)) i → unsent' ≡ unsent ++ shown_text quiet last ask reply
    → ended ≡ (is_failure reply || last) → ((held : List ℕ) → place ≡ Stands Nothing held → place' ≡ place_by ended place (Stands Nothing (drop used held)))
    → ShowsNextReply place request i ask reply unsent ended place' unsent'
shows_next place place' request i ask reply unsent unsent' used quiet last ended used_is at quiet_is last_is text ends goes =
    let m : AnyMessage = message_at place request in
    let shown : shown_text quiet last ask reply ≡ shown_of (Whole m) i reply =
    ap (λ (q : Bool). shown_text q last ask reply) quiet_is ∙ ap (λ (l : Bool). shown_text (quiet_of m) l ask reply) last_is ∙ ap (λ (o : Option Ask). shown_by (quiet_of m) (asks_of m) i o reply) (sym at.at) in
    record {
      ended_is = ends ∙ ap (λ (l : Bool). is_failure reply || l) last_is;
      place_is = goes (bytes_at place) at.front.stands ∙ ap (λ n. place_by ended place (Stands Nothing (drop n (bytes_at place)))) used_is;
      unsent_is = text ∙ ap (λ (l : List ℕ). unsent ++ l) shown;
    }

-- the cache answered, and the reply was shown
pub serves_next : (moment : ℤ) (place place' : Place) (request : Request) (i : ℕ) (ask : Ask) (c d : Contents) (reply : Answer) (unsent unsent' : List ℕ) (ended : Bool)
    → IsAskOf place request i ask → AnswersAsk moment ask c reply d → ShowsNextReply place request i ask reply unsent ended place' unsent' → ServesNext moment place i c unsent ended place' d unsent'
serves_next moment place place' request i ask c d reply unsent unsent' ended at answered shows =
    let m : AnyMessage = message_at place request in
    let rest : List ℕ = drop (used_of request) (bytes_at place) in
    record {
      text = shown_of (Whole m) i reply;
      answers = record {
        said = Whole m;
        next = after_any m rest;
        reads = reads_front place request at.front;
        ask = ask;
        at = at.at;
        reply = reply;
        answered = answered;
        ended_is = shows.ended_is;
        text_is = refl;
        place_is = shows.place_is ∙ ap (λ (p : Place). place_by ended place p) (sym (request_after (bytes_at place) request rest i ask at.at));
      };
      unsent_is = shows.unsent_is;
    }

-- the asks of a request at the front are those of the next message
pub asks_same : (place : Place) (request : Request) (said : Said) (next : Place) → RequestIsFront place request → ReadsNext place said next → asks_in said ≡ asks_of (message_at place request)
asks_same place request said next front reads =
    ap asks_in (reader_is.one_message place said (Whole (message_at place request)) next (after_any (message_at place request) (drop (used_of request) (bytes_at place))) reads (reads_front place request front)).0

right_false : (a b : Bool) → (a || b) ≡ false → b ≡ false
right_false true b e = absurd (cc)
right_false false b e = e

not_last : (reply : Answer) (i n : ℕ) (last : Bool) → last ≡ nat_eq (i + 1) n → (is_failure reply || last) ≡ false → i < n → i + 1 < n
not_last reply i n last is none lt =
    let differs : nat_eq (i + 1) n ≡ false = sym is ∙ right_false (is_failure reply) last none in
    elim (cases_eq (i + 1) n) [ inl equal ↦ absurd (true_is_not_false (sym (eq-eqb (i + 1) n equal) ∙ differs)) | inr other ↦ omega (arith, lt, other) ]
  where
    true_is_not_false : true ≡ false → ⊥
    true_is_not_false e = cc

stays_by : (ended : Bool) (place next : Place) → ended ≡ false → place_by ended place next ≡ place
stays_by true place next e = absurd (cc)
stays_by false place next e = refl

-- where the message isn't done, the stream stands where it stood
pub stays_at : (moment : ℤ) (place place' : Place) (i : ℕ) (c d : Contents) (u v : List ℕ) (ended : Bool) → ServesNext moment place i c u ended place' d v → ended ≡ false → place' ≡ place
stays_at moment place place' i c d u v ended s e = s.answers.place_is ∙ stays_by ended place s.answers.next e

-- and its next ask is next
pub way_on : (moment : ℤ) (place place' : Place) (request : Request) (i : ℕ) (c d : Contents) (u v : List ℕ) (ended : Bool) → IsKeyOf place request i → ServesNext moment place i c u ended place' d v → ended ≡ false → IsKeyOf place' request (i + 1)
way_on moment place place' request i c d u v ended way s e =
    let a = s.answers in
    let same : asks_in a.said ≡ asks_of (message_at place request) = asks_same place request a.said a.next way.front a.reads in
    let none : ends_at a.said i a.reply ≡ false = sym a.ended_is ∙ e in
    let there : i < length (asks_in a.said) = subst (λ (l : List Ask). i < length l) (sym same) way.there in
    let next : i + 1 < length (asks_of (message_at place request)) = subst (λ (l : List Ask). i + 1 < length l) same (not_last a.reply i (length (asks_in a.said)) (is_last_ask (asks_in a.said) i) refl none there) in
    subst (λ (p : Place). IsKeyOf p request (i + 1)) (sym (stays_at moment place place' i c d u v ended s e)) (record { front = way.front; there = next })

-- an ask of a request at the front is on the way
pub key_on_way : (place : Place) (request : Request) (i : ℕ) → IsKeyOf place request i → IsOnWay (spot_at place i)
key_on_way place request i way = inr (Whole (message_at place request), after_any (message_at place request) (drop (used_of request) (bytes_at place)), reads_front place request way.front, way.there)

-- the next ask of a request at the front
pub way_key : (place : Place) (request : Request) (i : ℕ) → RequestIsFront place request → (asks_of (message_at place request) ≡ [] → ⊥) → IsOnWay (spot_at place i) → IsKeyOf place request i
way_key place request i front some (inl zero) = record { front = front; there = subst (λ n. n < length (asks_of (message_at place request))) (sym zero) (some_first (asks_of (message_at place request)) some) }
  where
    some_first : (asks : List Ask) → (asks ≡ [] → ⊥) → 0 < length asks
    some_first [] some = absurd (some refl)
    some_first (ask ∷ asks) some = omega arith
way_key place request i front some (inr way) = record { front = front; there = subst (λ (l : List Ask). i < length l) (asks_same place request way.0 way.1 front way.2) way.3 }

-- memory was refused before the ask
pub stops_before : (moment : ℤ) (place : Place) (i : ℕ) (c : Contents) → StopsNext moment place i c c
stops_before moment place i c = inl refl

-- or at it
pub stops_at : (moment : ℤ) (place : Place) (request : Request) (i : ℕ) (ask : Ask) (c d : Contents) → RequestIsFront place request → slice_get (asks_of (message_at place request)) i ≡ Some ask → StopsAtAsk moment ask c d → StopsNext moment place i c d
stops_at moment place request i ask c d front at stops =
    inr (Whole (message_at place request), after_any (message_at place request) (drop (used_of request) (bytes_at place)), reads_front place request front, (ask, at, stops))

-- what came leaves the ask that is next where it is
pub way_came : (place : Place) (count : ℕ) (more : List ℕ) → IsOnWay (spot_at place count) → IsOnWay (spot_at (extended place more) count)
way_came place count more (inl zero) = inl zero
way_came place count more (inr way) = inr (way.0, extended way.1 more, reader_is.goes_on place way.0 way.1 more way.2, way.3)

-- nor where memory was refused for it
pub way_fed : {A E : Type 0} (r : Result A E) (old new : Place) (count : ℕ) (more : List ℕ) → IsOnWay (spot_at old count) → OnOk r (new ≡ extended old more) → OnErr r (new ≡ old) → IsOnWay (spot_at new count)
way_fed (Ok a) old new count more way ok err = subst (λ (p : Place). IsOnWay (spot_at p count)) (sym ok) (way_came old count more way)
way_fed (Err e) old new count more way ok err = subst (λ (p : Place). IsOnWay (spot_at p count)) (sym err) way

-- nothing is left to serve
pub served_by : (most : ℕ) (held unsent : List ℕ) (spot : Spot) → (held ≡ []) ⊎ (most ≤ length unsent) ⊎ (spot.place ≡ Closed) → IsAnsweredSoFar most spot.place unsent → IsServed most held unsent spot
served_by most held unsent spot why (inl backlog) = inl backlog
served_by most held unsent spot (inl none) (inr stuck) = inr (stuck, inl none)
served_by most held unsent spot (inr why) (inr stuck) = elim why [ inl backlog ↦ inl backlog | inr closed ↦ inr (stuck, inr closed) ]
