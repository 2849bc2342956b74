-- One call at the cache of its server, as the code makes it.
use Rattle.std.proofs.Common.{◌≡◌, ℕ, ℤ, ◌<◌, Bool, true, false, cond, List, length, Option, Some, None, inr, refl, sym, ap, ◌∙◌, subst}
use Rattle.std.proofs.lemmas.Bool.{leb-true, leb-false}
use Rattle.std.specs.Prelude.{slice_set, slice_index_or, nat_abs, nat_le, Result, Ok, Err, IfOk, OnOk, OnErr}
use Rattle.mc_types.specs.declared.ask.Ask.{Ask}
use Rattle.mc_types.specs.declared.answer.Answer.{Answer}
use Rattle.mc_types.specs.declared.call.Outcome.TheVariants.{Answered, Failed}
use Rattle.fresh_runs.specs.Calls.{Read, Unread, Never}
use Rattle.fresh_runs.specs.Log.{Before, After, Junk, Cut}
use Rattle.cache_server.specs.Contents.{Contents}
use Rattle.cache_server.specs.Table.{Applies}
use Rattle.cache_server.specs.Held.{holds, IsServerCall, keys_lost_by}
use Rattle.wire_answers.specs.Spelling.{answer_spelling}
use Rattle.script_events.specs.Caches.{changed_at}
use Rattle.script_events.specs.declared.servers.event.Made.{Made}
use Rattle.script_events.proofs.Places.{is_there}
use Rattle.script_events.proofs.CacheLosses.{set_is_changed}
use Rattle.script_events.specs.Calling.{AppliesAt, CallIsMade, IsRefused, made_of}

pub if_both : {A E : Type 0} (r : Result A E) (P Q R : A → Type 0) → ((a : A) → P a → Q a → R a) → IfOk r P → IfOk r Q → IfOk r R
if_both (Ok a) P Q R on p q = on a p q
if_both (Err e) P Q R on p q = tt

pub on_err : {A E : Type 0} (r : Result A E) (P Q : Type 0) → (P → Q) → OnErr r P → OnErr r Q
on_err (Ok a) P Q on p = tt
on_err (Err e) P Q on p = on p

pub on_ok_both : {A E : Type 0} (r : Result A E) (P Q R : Type 0) → (P → Q → R) → OnOk r P → OnOk r Q → OnOk r R
on_ok_both (Ok a) P Q R on p q = on p q
on_ok_both (Err e) P Q R on p q = tt

pub applied : (moment : ℤ) (stamp : ℕ) (old new : List Contents) (server place : ℕ) (ask : Ask) (x y : Contents) (answer : Answer) (found : Option ℕ) → place ≡ server → server < length old → x ≡ slice_index_or old place x → new ≡ slice_set old place y
    → Applies moment stamp ask x answer found y → IsServerCall stamp ask (holds x) (keys_lost_by (nat_abs moment) stamp ask x) answer found (holds y) → AppliesAt stamp moment old server ask answer found new
applied moment stamp old new server place ask x y answer found at lt got caches applies call =
    record {
      cache = x;
      after = y;
      is_there = is_there old server x lt (subst (λ p. x ≡ slice_index_or old p x) at got);
      applies = applies;
      call = call;
      caches_are = subst (λ p. new ≡ slice_set old p y) at caches;
    }

pub changed : (f : Contents → Contents) (old : List Contents) (server place : ℕ) (x y : Contents) → place ≡ server → server < length old → x ≡ slice_index_or old place x → y ≡ f x → slice_set old place y ≡ changed_at server f old
changed f old server place x y at lt got is =
    set_is_changed f old place x y (subst (λ p. p < length old) (sym at) lt) got is ∙ ap (λ p. changed_at p f old) at

module _ (stamp : ℕ) (moment : ℤ) (old : List Contents) (server : ℕ) (ask : Ask) (answer : Answer) (found : Option ℕ) (new : List Contents) (a : AppliesAt stamp moment old server ask answer found new) where
  pub answered : CallIsMade None stamp moment old server ask (record { outcome = Answered answer; stamp = found }) new
  answered = record { end = Read stamp answer 0; as_named = tt; outcome_is = refl; ends = (refl, refl, a) }

  pub unread_after : (made : Made) → made ≡ record { outcome = Failed; stamp = None } → CallIsMade (Some After) stamp moment old server ask made new
  unread_after made is =
      subst (λ m. CallIsMade (Some After) stamp moment old server ask m new) (sym is)
      (record { end = Unread stamp answer 0; as_named = tt; outcome_is = refl; ends = (refl, refl, refl, found, a) })

  pub unread_junk : (made : Made) → made ≡ record { outcome = Failed; stamp = None } → CallIsMade (Some Junk) stamp moment old server ask made new
  unread_junk made is =
      subst (λ m. CallIsMade (Some Junk) stamp moment old server ask m new) (sym is)
      (record { end = Unread stamp answer 0; as_named = tt; outcome_is = refl; ends = (refl, refl, refl, found, a) })

  cut_so : (count : ℕ) (b : Bool) → nat_le (length (answer_spelling ask answer)) count ≡ b → CallIsMade (Some (Cut count)) stamp moment old server ask (made_of found (cond b (Some answer) None)) new
  cut_so count true e = record { end = Read stamp answer 0; as_named = leb-true (length (answer_spelling ask answer)) count e; outcome_is = refl; ends = (refl, refl, a) }
  cut_so count false e = record { end = Unread stamp answer 0; as_named = leb-false (length (answer_spelling ask answer)) count e; outcome_is = refl; ends = (refl, refl, refl, found, a) }

  pub cut : (count : ℕ) (made : Made) (read : Option Answer) → read ≡ cond (nat_le (length (answer_spelling ask answer)) count) (Some answer) None → made ≡ made_of found read → CallIsMade (Some (Cut count)) stamp moment old server ask made new
  cut count made read is so =
      subst (λ m. CallIsMade (Some (Cut count)) stamp moment old server ask m new) (sym (so ∙ ap (made_of found) is)) (cut_so count (nat_le (length (answer_spelling ask answer)) count) refl)

  pub cut_refused : (count : ℕ) → IsRefused (Some (Cut count)) stamp moment old server ask new
  cut_refused count = inr (count, refl, answer, found, a)

pub unapplied : (stamp : ℕ) (moment : ℤ) (old : List Contents) (server : ℕ) (ask : Ask) (made : Made) → made ≡ record { outcome = Failed; stamp = None } → CallIsMade (Some Before) stamp moment old server ask made old
unapplied stamp moment old server ask made is =
    subst (λ m. CallIsMade (Some Before) stamp moment old server ask m old) (sym is)
    (record { end = Never; as_named = tt; outcome_is = refl; ends = (refl, refl) })
