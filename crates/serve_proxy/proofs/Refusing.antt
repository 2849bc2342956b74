-- A call that isn't sent for a reason has failed.
use Rattle.std.proofs.Common.{◌≡◌, ◌≢◌, ℕ, ◌+◌, ◌<◌, ◌≤◌, Bool, true, false, List, [], ◌∷◌, length, Option, Some, None, inl, inr, refl, sym, ap, ◌∙◌, subst, arith}
use Rattle.std.proofs.lemmas.List.{length-map}
use Rattle.std.specs.Prelude.{IsSome, MatchOption, slice_get, ◌&&◌}
use Rattle.std.specs.Option.{option_map}
use Rattle.wire_parts.specs.Sending.{bytes_of}
use Rattle.serve_wire.specs.Events.{WireEvent, time}
use Rattle.serve_wire.specs.declared.conn.conn.Conn.{Conn}
use Rattle.core_accepted.specs.declared.served.ServedCore.{ServedCore}
use Rattle.serve_clients.specs.declared.clients.Clients.{Clients}
use Rattle.serve_links.specs.declared.calls.calls.SentCall.{SentCall}
use Rattle.serve_links.specs.declared.link.Link.{Link}
use Rattle.serve_links.specs.declared.news.Cause.TheVariants as causes
use Rattle.serve_links.specs.declared.refusal.NotSent.{NotSent}
use Rattle.serve_links.specs.declared.refusal.Refusal.{Refusal}
use Rattle.serve_links.specs.declared.refusal.Refusal.TheVariants as refusals
use Rattle.serve_links.specs.declared.settings.LinkLimits.{LinkLimits}
use Rattle.serve_links.specs.Calls.{stores_first}
use Rattle.serve_links.specs.CoreSteps.{Obstacle, WaitedLong, StoreLate, ForeignCame, LeftAlone, ManyWait, Step, Noted, IsSending}
use Rattle.serve_links.specs.Called.{clock_in, given_in}
use Rattle.serve_links.specs.Dialects.{awaits_flush}
use Rattle.serve_links.specs.Lateness.{HasLate, awaits_store}
use Rattle.serve_links.specs.Talks.{SaidAsk, Apart, InUse, HasWaited, IsStoreFirst, IsFor, CanNotGo, IsTold, talk_in}
use Rattle.serve_links.specs.Story.{said_asks, address_and_opened, servers_of, most_of, IsByLimit, ObstacleIsShown, WasShown, LineAgrees, LineIsForeign, AnEnd, Agrees, AgreesSent, AgreesDue, AgreesRefused, AllGoFrom}
use Rattle.serve_links.specs.Links.{least_waiting}
use Rattle.serve_links.specs.Unsent.{IsRefused, IsHindered, IsLeftAlone}
use Rattle.serve_links.proofs.ByLimits.{servers_same, most_there}
use Rattle.serve_links.proofs.Foreign.{fails_foreign}
use Rattle.serve_links.proofs.LateGoes.{waited_of}
use Rattle.serve_links.proofs.LinkGoes.{unused_apart}
use Rattle.serve_links.proofs.Showing.{none_since}
use Rattle.serve_links.specs.Shut.{drain_of}
use Rattle.serve_proxy.specs.Unsent.{IsHinderedAt}
use Rattle.serve_proxy.proofs.Going.{and_then, noted_agrees}
use Rattle.serve_proxy.proofs.GivenUp.{out_some, late_some, store_said}

-- ---- one that is given back

pub refused_given :
    {a b c : AnEnd} (at : ℕ) (call : SentCall) (it : NotSent) → it.call ≡ call → AllGoFrom (AgreesSent at call) (AgreesDue call.ticket.number at call.since) IsSending a b
    → AllGoFrom (AgreesDue it.call.ticket.number at it.call.since) Agrees IsSending b c → AllGoFrom (AgreesSent at call) Agrees IsSending a c
refused_given {a} {b} {c} at call it same s g = and_then s (subst (λ (k : SentCall). AllGoFrom (AgreesDue k.ticket.number at k.since) Agrees IsSending b c) same g)

-- ---- for a reason

none_isnt_some : IsSome {T = Conn} None → ⊥
none_isnt_some e = cc

both_second : (a b : Bool) → (a && b) ≡ true → b ≡ true
both_second true b e = e
both_second false b e = absurd (false_true e)
  where
    false_true : false ≡ true → ⊥
    false_true e = cc

apart_used : Apart ≡ InUse → ⊥
apart_used e = cc

-- what came over the connection was foreign
foreign_shown : (at : ℕ) (past : List Step) (h : List WireEvent) (link : Link) (c : Conn) → link.conn ≡ Some c → LineIsForeign link → LineAgrees at past h link → WasShown (Some causes.ForeignAnswer) 0 at past h
foreign_shown at past h link c is foreign a =
    let t = a.conn c is in
    record {
      conn = c.number;
      before = h;
      since = none_since h;
      begun = address_and_opened link;
      held = c.held.items;
      unsent = bytes_of c.unsent;
      agrees = record { is_to = t.is_to; begun_is = t.begun_is; sent_is = t.sent_is; told_is = t.told_is; out_is = refl; awaits_is = refl; dialect_is = refl; late_is = refl };
      shows = (fails_foreign at past h link foreign a).shows c is;
    }

module _ (h : List WireEvent) (cs : Clients) (ls : List Link) (number at since : ℕ) where
  abbrev With : ServedCore → AnEnd
  With core = record { core = core; history = h; clients = cs; links = ls }

  abbrev Refuses : ServedCore → ServedCore → Type 0
  Refuses a b = AllGoFrom (AgreesDue number at since) (AgreesRefused number at since) IsSending (With a) (With b)

  -- what was said over the connection tells it
  by_talk : (a b : ServedCore) → b ≡ a → ((past : List Step) → Agrees past (With a) → CanNotGo number at past) → Refuses a b
  by_talk a b same why = subst (Refuses a) (sym same) (record { steps = []; kinds = tt; walks = refl; agree = λ past due. (due.0, due.1, why past due.0); servers = servers_same ls ls refl })

  -- or it is noted
  by_note :
      (obstacle : Obstacle) (a b : ServedCore) → b ≡ a → IsFor number obstacle → ((past : List Step) → AgreesDue number at since past (With a) → IsTold obstacle at past × ObstacleIsShown obstacle at past h)
      → IsByLimit (most_of (servers_of ls)) (Noted at obstacle) → Refuses a b
  by_note obstacle a b does is_for is by = record {
    steps = Noted at obstacle ∷ [];
    kinds = (tt, tt);
    walks = (a, refl, does);
    agree = λ past due. (
      noted_agrees at obstacle a b past does (is past due).0 (is past due).1 due.0,
      record { ask = due.1.ask; due = due.1.due; given = due.1.given; apart = due.1.apart },
      inr (inr (inr (record { obstacle = obstacle; earlier = past; last = refl; is_for = is_for }))),
    );
    servers = record { same = refl; late = (by, tt) };
  }

  none_there : (a b : ServedCore) → b ≡ a → slice_get ls at ≡ None → Refuses a b
  none_there a b same none = by_talk a b same (λ past was. inl (λ e. apart_used (sym (was.unlinked at none).1 ∙ e)))

  by_limit : (link : Link) → slice_get ls at ≡ Some link → option_map (λ (limits : LinkLimits). limits.call_ms) (most_of (servers_of ls) at) ≡ Some link.limits.call_ms
  by_limit link there = ap (option_map (λ (limits : LinkLimits). limits.call_ms)) (most_there ls at link there)

  no_conn : (link : Link) → slice_get ls at ≡ Some link → link.conn ≡ None → (a b : ServedCore) → b ≡ a → Refuses a b
  no_conn link there none a b same = by_talk a b same (λ past was. inl (unused_apart h at link.text.items (talk_in past at) (drain_of link) ((was.links at link there).unused none)))

  waited : (link : Link) → slice_get ls at ≡ Some link → since + link.limits.call_ms < time h → (a b : ServedCore) → b ≡ a → Refuses a b
  waited link there late a b same = by_note (WaitedLong number link.limits.call_ms) a b same refl (λ past due. (told past due, tt)) (by_limit link there)
    where
      told : (past : List Step) → AgreesDue number at since past (With a) → given_in past number + link.limits.call_ms < clock_in past
      told past due = let given = due.1.given in let clock : clock_in past ≡ time h = due.0.clock in omega (arith, given, clock, late)

  store_late : (link : Link) (c : Conn) → slice_get ls at ≡ Some link → link.conn ≡ Some c → awaits_store link ≡ true → HasLate (time h) link → (a b : ServedCore) → b ≡ a → Refuses a b
  store_late link c there is store late a b same = by_note (StoreLate link.limits.call_ms) a b same tt (λ past due. (told past due, tt)) (by_limit link there)
    where
      told : (past : List Step) → AgreesDue number at since past (With a) → IsStoreFirst (talk_in past at).out × HasWaited link.limits.call_ms (clock_in past) (talk_in past at).out
      told past due =
          let out = ((due.0.links at link there).conn c is).out_is in (
            subst IsStoreFirst (sym out) (store_said link.calls.sent.items (both_second link.limits.stores_wait (stores_first link.calls.sent.items) store)),
            subst (λ n. HasWaited link.limits.call_ms n (talk_in past at).out) (sym due.0.clock)
                (subst (HasWaited link.limits.call_ms (time h)) (sym out) (waited_of link.limits.call_ms (time h) link.calls.sent.items late)),
          )

  left_alone : (link : Link) (c : Conn) → slice_get ls at ≡ Some link → link.conn ≡ Some c → IsLeftAlone link → (a b : ServedCore) → b ≡ a → Refuses a b
  left_alone link c there is alone a b same = by_note (LeftAlone link.limits.fail_limit) a b same tt (λ past due. (told past due, tt)) (ap (option_map (λ (limits : LinkLimits). limits.fail_limit)) (most_there ls at link there))
    where
      told : (past : List Step) → AgreesDue number at since past (With a) → (link.limits.fail_limit ≤ (talk_in past at).failed) × ((talk_in past at).out ≢ [])
      told past due =
          let agrees = due.0.links at link there in let most : link.limits.fail_limit ≤ link.lost = alone.0 in let tried : link.lost ≤ (talk_in past at).failed = agrees.tried in
          (omega (arith, most, tried), out_some at past h link c agrees is alone.1)

  -- over a connection
  over : (why : Refusal) (link : Link) (c : Conn) → slice_get ls at ≡ Some link → link.conn ≡ Some c → (a b : ServedCore) → b ≡ a → IsRefused why since (time h) link → Refuses a b
  over refusals.NoConnection link c there is a b notes refused = no_conn link there refused a b notes
  over refusals.ServerLate link c there is a b notes refused = by_talk a b notes (λ past was. inr (inl (late_some at past h link c (was.links at link there) is refused.1)))
  over refusals.StoreLate link c there is a b notes refused = store_late link c there is refused.1 refused.2 a b notes
  over refusals.Emptying link c there is a b notes refused = by_talk a b notes (λ past was. inr (inr (inl (ap awaits_flush ((was.links at link there).conn c is).awaits_is ∙ refused.1))))
  over refusals.ForeignCame link c there is a b notes refused = by_note ForeignCame a b notes tt (λ past due. (tt, foreign_shown at past h link c is refused.1 (due.0.links at link there))) tt
  over refusals.WaitedLong link c there is a b notes refused = waited link there refused a b notes
  over refusals.LeftAlone link c there is a b notes refused = left_alone link c there is refused.1 a b notes
  over refusals.ManyWait link c there is a b notes refused = absurd refused

  -- without one
  without : (why : Refusal) (link : Link) → slice_get ls at ≡ Some link → link.conn ≡ None → (a b : ServedCore) → b ≡ a → IsRefused why since (time h) link → Refuses a b
  without refusals.NoConnection link there is a b notes refused = no_conn link there is a b notes
  without refusals.ServerLate link there is a b notes refused = no_conn link there is a b notes
  without refusals.StoreLate link there is a b notes refused = no_conn link there is a b notes
  without refusals.Emptying link there is a b notes refused = no_conn link there is a b notes
  without refusals.ForeignCame link there is a b notes refused = no_conn link there is a b notes
  without refusals.WaitedLong link there is a b notes refused = no_conn link there is a b notes
  without refusals.LeftAlone link there is a b notes refused = absurd (none_isnt_some (subst (λ (o : Option Conn). IsSome o) is refused.0))
  without refusals.ManyWait link there is a b notes refused = absurd refused

  -- as many wait as there is always room for
  many_wait : (link : Link) → slice_get ls at ≡ Some link → least_waiting ≤ length link.waiting → (a b : ServedCore) → b ≡ a → Refuses a b
  many_wait link there many a b same = by_note ManyWait a b same tt (λ past due. ((said_asks link.waiting, (due.0.links at link there).due, told), tt)) tt
    where
      told : least_waiting ≤ length (said_asks link.waiting)
      told = let len = length-map link.waiting (λ (call : SentCall). let said : SaidAsk = (call.ticket.number, call.dialect, call.ticket.ask, call.since) in said) in omega (arith, len, many)

  pub refusal_goes : (why : Refusal) (a b : ServedCore) → b ≡ a → IsHinderedAt why at since (time h) ls → Refuses a b
  refusal_goes why a b notes refused = by (slice_get ls at) refl refused
    where
      one : (link : Link) (o : Option Conn) → slice_get ls at ≡ Some link → link.conn ≡ o → IsRefused why since (time h) link → Refuses a b
      one link None there is r = without why link there is a b notes r
      one link (Some c) there is r = over why link c there is a b notes r

      by : (o : Option Link) → slice_get ls at ≡ o → MatchOption o (why ≡ refusals.NoConnection) (IsHindered why since (time h)) → Refuses a b
      by None none is = none_there a b notes none
      by (Some link) there (inl many) = many_wait link there many.1 a b notes
      by (Some link) there (inr r) = one link link.conn there refl r
