-- A call of a script's servers is a step of a fleet.
use Rattle.std.proofs.Common.{◌≡◌, ℕ, zero, suc, ◌+◌, ◌<◌, Bool, true, false, cond, List, [], ◌∷◌, ◌++◌, length, Option, Some, None, option_map, refl, sym, ap, ◌∙◌, subst, arith, nat_eq, bytes_eq}
use Rattle.std.specs.Prelude.{slice_get, slice_set, nat_abs}
use Rattle.mc_types.specs.declared.ask.Ask.{Ask}
use Rattle.mc_types.specs.declared.answer.Answer.{Answer}
use Rattle.mc_types.specs.declared.call.Origin.{Origin}
use Rattle.mc_types.specs.declared.call.Outcome.TheVariants.{Answered, Failed}
use Rattle.mc_types.specs.Items.{Item, after_call}
use Rattle.mc_types.specs.Agree.{AnswerAgrees}
use Rattle.fresh_runs.specs.Calls.{End, Read, Unread, Never, outcome_of}
use Rattle.fresh_runs.specs.Fleet.{StampIn, Fleet, after_losses, AreLosses}
use Rattle.fresh_runs.specs.Single.{FitsOutcome}
use Rattle.fresh_runs.specs.Run.{Event, Begins, Replies, Breaks, Turns, Restarts}
use Rattle.fresh_runs.specs.Run as run
use Rattle.fresh_runs.specs.ScriptLog.{lost_by}
use Rattle.cache_server.specs.Contents.{Contents}
use Rattle.cache_server.specs.Held as cache
use Rattle.cache_server.specs.Held.{holds, without}
use Rattle.script_events.specs.Found.{IsStamp}
use Rattle.script_events.specs.Found.{AgreesWith}
use Rattle.script_events.specs.Caches.{cache_held}
use Rattle.script_events.specs.declared.servers.event.Loss.{Loss}
use Rattle.script_events.specs.declared.servers.event.Loss.TheVariants.{Item as LostItem, Restart}
use Rattle.script_events.specs.declared.servers.event.Made.{Made}
use Rattle.script_events.proofs.Places.{held_here, held_else, without_same, by_server, same, lost_else, lost_here}
use Rattle.script_events.specs.Losing.{loss_told, events_of, AreLost}
use Rattle.script_events.specs.Calling.{EndsByScript, AppliesAt, CallEndsAs}
use Rattle.script_events.specs.Servers.{caches_of, turn_of, moment_now, named_of, lost_of}
use Rattle.script_events.specs.Law.{spills_of, caches_before, IsStep, AnswersAreSteps}
use Rattle.script_events.specs.declared.servers.servers.ScriptServers.{ScriptServers}

-- ---- losses, in any order

abbrev is_gone : List Event → ℕ → List ℕ → Bool
is_gone [] s k = false
is_gone (Turns server key turned ∷ es) s k = cond (cond (nat_eq server s) (bytes_eq key k) false) true (is_gone es s k)
is_gone (Restarts server ∷ es) s k = cond (nat_eq server s) true (is_gone es s k)
is_gone (Begins n a ∷ es) s k = false
is_gone (run.Calls a b c d e ∷ es) s k = false
is_gone (Replies a b c d ∷ es) s k = false
is_gone (Breaks n ∷ es) s k = false

key_gone : (a b c : Bool) (o : Option Item) → cond a (cond b None (cond c None o)) (cond c None o) ≡ cond (cond (cond a b false) true c) None o
key_gone true true c o = refl
key_gone true false c o = refl
key_gone false b c o = refl

all_gone : (a c : Bool) (o : Option Item) → cond a None (cond c None o) ≡ cond (cond a true c) None o
all_gone true c o = refl
all_gone false c o = refl

left : (es : List Event) → AreLosses es → (h : ℕ → List ℕ → Option Item) (s : ℕ) (k : List ℕ) → after_losses es h s k ≡ cond (is_gone es s k) None (h s k)
left [] l h s k = refl
left (Turns server key turned ∷ es) l h s k =
    ap (λ t. cond (nat_eq server s) (cond (bytes_eq key k) t (after_losses es h s k)) (after_losses es h s k)) l.0 ∙ ap (λ o. cond (nat_eq server s) (cond (bytes_eq key k) None o) o) (left es l.1 h s k)
    ∙ key_gone (nat_eq server s) (bytes_eq key k) (is_gone es s k) (h s k)
left (Restarts server ∷ es) l h s k = ap (λ o. cond (nat_eq server s) None o) (left es l h s k) ∙ all_gone (nat_eq server s) (is_gone es s k) (h s k)
left (Begins n a ∷ es) l h s k = absurd l
left (run.Calls a b c d e ∷ es) l h s k = absurd l
left (Replies a b c d ∷ es) l h s k = absurd l
left (Breaks n ∷ es) l h s k = absurd l

-- by what was held there
left_same : (es : List Event) → AreLosses es → (g h : ℕ → List ℕ → Option Item) (s : ℕ) (k : List ℕ) → g s k ≡ h s k → after_losses es g s k ≡ after_losses es h s k
left_same es l g h s k is = left es l g s k ∙ ap (λ o. cond (is_gone es s k) None o) is ∙ sym (left es l h s k)

swap : (a b : Bool) (o : Option Item) → cond a None (cond b None o) ≡ cond b None (cond a None o)
swap true true o = refl
swap true false o = refl
swap false true o = refl
swap false false o = refl

in_any_order : (xs ys : List Event) → AreLosses xs → AreLosses ys → (h : ℕ → List ℕ → Option Item) (s : ℕ) (k : List ℕ) → after_losses xs (after_losses ys h) s k ≡ after_losses ys (after_losses xs h) s k
in_any_order xs ys lx ly h s k =
    left xs lx (after_losses ys h) s k ∙ ap (λ o. cond (is_gone xs s k) None o) (left ys ly h s k) ∙ swap (is_gone xs s k) (is_gone ys s k) (h s k)
    ∙ ap (λ o. cond (is_gone ys s k) None o) (sym (left xs lx h s k)) ∙ sym (left ys ly (after_losses xs h) s k)

-- ---- losses of a script, and what a server drops by itself

losses_more : (es : List Event) (loss : Loss) → AreLosses es → AreLosses (es ++ lost_by (loss_told loss) ∷ [])
losses_more [] (LostItem server key) l = (refl, tt)
losses_more [] (Restart server) l = tt
losses_more (Turns server key turned ∷ es) loss l = (l.0, losses_more es loss l.1)
losses_more (Restarts server ∷ es) loss l = losses_more es loss l
losses_more (Begins n a ∷ es) loss l = absurd l
losses_more (run.Calls a b c d e ∷ es) loss l = absurd l
losses_more (Replies a b c d ∷ es) loss l = absurd l
losses_more (Breaks n ∷ es) loss l = absurd l

are_losses : (losses : List Loss) → AreLosses (events_of losses)
are_losses [] = tt
are_losses (loss ∷ more) = losses_more (events_of more) loss (are_losses more)

are_spills : (server : ℕ) (keys : List (List ℕ)) → AreLosses (spills_of server keys)
are_spills server [] = tt
are_spills server (key ∷ keys) = (refl, are_spills server keys)

-- ---- the cache at a place

held_got : (caches : List Contents) (s : ℕ) (x : Contents) → slice_get caches s ≡ Some x → (k : List ℕ) → cache_held caches s k ≡ holds x k
held_got [] s x is k = absurd (cc)
held_got (c ∷ caches) zero x is k = let one : c ≡ x = cc in ap (λ y. holds y k) one
held_got (c ∷ caches) (suc s) x is k = held_got caches s x is k

there : (caches : List Contents) (s : ℕ) (x : Contents) → slice_get caches s ≡ Some x → s < length caches
there [] s x is = absurd (cc)
there (c ∷ caches) zero x is = omega arith
there (c ∷ caches) (suc s) x is = let less = there caches s x is in omega (arith, less)

same_twice : {A : Type 0} (a b : Bool) (x : A) → x ≡ cond a (cond b x x) x
same_twice true true x = refl
same_twice true false x = refl
same_twice false b x = refl

-- ---- a step

module _ (number stamp : ℕ) (origin : Origin) (old : ScriptServers) (server : ℕ) (ask : Ask) (made : Made) (new : ScriptServers) (before : Fleet) (mid : List Contents)
    (lost : AreLost (lost_of old (turn_of old + 1)) (caches_of old) mid) (holds_is : (s : ℕ) (k : List ℕ) → before.holds s k ≡ cache_held (caches_of old) s k) (given : StampIn (before.found number) number origin stamp) where
  abbrev losses : List Event
  losses = events_of (lost_of old (turn_of old + 1))

  are_lost : AreLosses losses
  are_lost = are_losses (lost_of old (turn_of old + 1))

  -- what the call meets
  abbrev met : List (List ℕ) → ℕ → List ℕ → Option Item
  met keys s k = after_losses losses (after_losses (spills_of server keys) before.holds) s k

  met_is : (keys : List (List ℕ)) (s : ℕ) (k : List ℕ) → met keys s k ≡ after_losses (spills_of server keys) (cache_held mid) s k
  met_is keys s k =
      in_any_order losses (spills_of server keys) are_lost (are_spills server keys) before.holds s k
      ∙ left_same (spills_of server keys) (are_spills server keys) (after_losses losses before.holds) (cache_held mid) s k (left_same losses are_lost before.holds (cache_held (caches_of old)) s k (holds_is s k) ∙ sym (lost.holds s k))

  -- the fleet after it
  abbrev after : Option Item → Fleet
  after item = record { holds = λ s k. cache_held (caches_of new) s k; found = λ n. cond (nat_eq number n) (before.found n ++ item ∷ []) (before.found n) }

  found_here : (item : Option Item) → (after item).found number ≡ before.found number ++ item ∷ []
  found_here item = ap (λ b. cond b (before.found number ++ item ∷ []) (before.found number)) (same number)

  module _ (answer : Answer) (found : Option ℕ) (a : AppliesAt stamp (moment_now old) mid server ask answer found (caches_of new)) where
    abbrev keys : List (List ℕ)
    keys = cache.keys_lost_by (nat_abs (moment_now old)) stamp ask a.cache

    met_here : (k : List ℕ) → met keys server k ≡ without keys (holds a.cache) k
    met_here k = met_is keys server k ∙ lost_here server keys (cache_held mid) k ∙ without_same keys (cache_held mid server) (holds a.cache) (λ q. held_got mid server a.cache a.is_there q) k

    met_else : (s : ℕ) (k : List ℕ) → nat_eq server s ≡ false → met keys s k ≡ cache_held mid s k
    met_else s k other = met_is keys s k ∙ lost_else server keys (cache_held mid) s k other

    held_now : (s : ℕ) (k : List ℕ) → cache_held (caches_of new) s k ≡ cond (nat_eq server s) (cond (bytes_eq ask.key k) (after_call ask stamp answer 0 (met keys s k)) (met keys s k)) (met keys s k)
    held_now s k =
        ap (λ l. cache_held l s k) a.caches_are
        ∙ by_server (λ t. cache_held (slice_set mid server a.after) t k ≡ cond (nat_eq server t) (cond (bytes_eq ask.key k) (after_call ask stamp answer 0 (met keys t k)) (met keys t k)) (met keys t k)) server s
        (held_here mid server a.after (there mid server a.cache a.is_there) k ∙ a.call.after k
        ∙ ap (λ o. cond (bytes_eq ask.key k) (after_call ask stamp answer 0 o) o) (sym (met_here k))
        ∙ ap (λ b. cond b (cond (bytes_eq ask.key k) (after_call ask stamp answer 0 (met keys server k)) (met keys server k)) (met keys server k)) (sym (same server)))
        (λ other. held_else mid server a.after (there mid server a.cache a.is_there) s k other ∙ sym (met_else s k other)
        ∙ ap (λ b. cond b (cond (bytes_eq ask.key k) (after_call ask stamp answer 0 (met keys s k)) (met keys s k)) (met keys s k)) (sym other))

    agrees : AnswerAgrees ask answer (met keys server ask.key)
    agrees = subst (AnswerAgrees ask answer) (sym (met_here ask.key)) a.call.agrees

    found_is : found ≡ option_map (λ (item : Item). item.stamp) (met keys server ask.key)
    found_is = a.call.found_is ∙ ap (λ o. option_map (λ (item : Item). item.stamp) o) (sym (met_here ask.key))

    at_caches : slice_get (caches_before old) server ≡ Some a.cache
    at_caches = ap (λ l. slice_get l server) (sym lost.contents) ∙ a.is_there

    read_step : made.outcome ≡ Answered answer → found ≡ made.stamp → EndsByScript ask (named_of old (turn_of old + 1)) (Read stamp answer 0) → IsStep number origin old server ask made new before (after (met keys server ask.key))
    read_step is stamp_is named =
        record {
          spilled = keys;
          call = record {
            lost = losses;
            losses = are_lost;
            end = Read stamp answer 0;
            outcome = is;
            ends = (agrees, given);
            holds = held_now;
            found = λ n. refl;
          };
          losses_are = refl;
          are_spilled = (a.cache, at_caches, refl);
          as_named = named;
          fits = subst (FitsOutcome ask) (sym is) a.call.fits;
          item = met keys server ask.key;
          found_last = found_here (met keys server ask.key);
          found_is = record { agrees = subst (λ o. AgreesWith ask o (met keys server ask.key)) (sym is) agrees; stamp_is = subst (λ o. IsStamp o (met keys server ask.key) made.stamp) (sym is) (sym stamp_is ∙ found_is) };
          holds = λ s k. refl;
        }

    unread_step : made.outcome ≡ Failed → made.stamp ≡ None → EndsByScript ask (named_of old (turn_of old + 1)) (Unread stamp answer 0) → IsStep number origin old server ask made new before (after (met keys server ask.key))
    unread_step is stamp_is named =
        record {
          spilled = keys;
          call = record {
            lost = losses;
            losses = are_lost;
            end = Unread stamp answer 0;
            outcome = is;
            ends = (agrees, given);
            holds = held_now;
            found = λ n. refl;
          };
          losses_are = refl;
          are_spilled = (a.cache, at_caches, refl);
          as_named = named;
          fits = subst (FitsOutcome ask) (sym is) tt;
          item = met keys server ask.key;
          found_last = found_here (met keys server ask.key);
          found_is = record { agrees = subst (λ o. AgreesWith ask o (met keys server ask.key)) (sym is) tt; stamp_is = subst (λ o. IsStamp o (met keys server ask.key) made.stamp) (sym is) stamp_is };
          holds = λ s k. refl;
        }

  never_step : made.outcome ≡ Failed → made.stamp ≡ None → caches_of new ≡ mid → EndsByScript ask (named_of old (turn_of old + 1)) Never → IsStep number origin old server ask made new before (after (met [] server ask.key))
  never_step is stamp_is caches named =
      record {
        spilled = [];
        call = record {
          lost = losses;
          losses = are_lost;
          end = Never;
          outcome = is;
          ends = tt;
          holds = λ s k. ap (λ l. cache_held l s k) caches ∙ sym (met_is [] s k) ∙ same_twice (nat_eq server s) (bytes_eq ask.key k) (met [] s k);
          found = λ n. refl;
        };
        losses_are = refl;
        are_spilled = refl;
        as_named = named;
        fits = subst (FitsOutcome ask) (sym is) tt;
        item = met [] server ask.key;
        found_last = found_here (met [] server ask.key);
        found_is = record { agrees = subst (λ o. AgreesWith ask o (met [] server ask.key)) (sym is) tt; stamp_is = subst (λ o. IsStamp o (met [] server ask.key) made.stamp) (sym is) stamp_is };
        holds = λ s k. refl;
      }

  step : (end : End) → EndsByScript ask (named_of old (turn_of old + 1)) end → made.outcome ≡ outcome_of end → CallEndsAs stamp (moment_now old) mid server ask end made.stamp (caches_of new) → (next : Fleet) × IsStep number origin old server ask made new before next
  step (Read s answer spaces) named is e = (
    after (met (keys answer made.stamp e.2) server ask.key),
    read_step answer made.stamp e.2 is refl (subst (λ n. EndsByScript ask (named_of old (turn_of old + 1)) (Read stamp answer n)) e.1 (subst (λ n. EndsByScript ask (named_of old (turn_of old + 1)) (Read n answer spaces)) e.0 named)),
  )
  step (Unread s answer spaces) named is e = (
    after (met (keys answer e.3 e.4) server ask.key),
    unread_step answer e.3 e.4 is e.2 (subst (λ n. EndsByScript ask (named_of old (turn_of old + 1)) (Unread stamp answer n)) e.1 (subst (λ n. EndsByScript ask (named_of old (turn_of old + 1)) (Unread n answer spaces)) e.0 named)),
  )
  step Never named is e = (after (met [] server ask.key), never_step is e.0 e.1 named)

pub answers_are_steps : AnswersAreSteps
answers_are_steps number stamp origin old server ask made new before a holds given =
    step number stamp origin old server ask made new before a.mid a.lost holds given a.is_made.end a.is_made.as_named a.is_made.outcome_is a.is_made.ends
