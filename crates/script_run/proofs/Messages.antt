-- Where nothing is left to do, each client's stream is its messages, and then less than a whole one; it was given what they and the replies of their commands show, and nothing else.
use Rattle.std.proofs.Common.{◌≡◌, ℕ, Bool, true, false, cond, ◌||◌, List, [], ◌∷◌, ◌++◌, Option, Some, None, inl, inr, refl, sym, ap, ◌∙◌, subst, nat_eq}
use Rattle.std.proofs.lemmas.Bool.{eqb-true}
use Rattle.mc_types.specs.declared.ask.Ask.{Ask}
use Rattle.mc_types.specs.Items.{Item}
use Rattle.fresh_runs.specs.Calls.{Words}
use Rattle.fresh_runs.specs.Protocol.{IsStuck}
use Rattle.fresh_runs.specs.Overlap as overlap
use Rattle.fresh_runs.specs.Overlap.{Front, Slot, Entry, Feeds, Starts, Sends, Happens, Ends, Shows, Passes, Gives, Drops, Frees, Resets, is_last_slot, start_front, fed_front, after_start, after_end, part_slot, slot_in, answered_in, behind_head, front_of, queue_of, output_of, given_of, Follows}
use Rattle.fresh_runs.specs.OverlapStream.{EndsWithLast, stream_of}
use Rattle.fresh_runs.specs.OverlapLaws.{WritesAll}
use Rattle.fresh_runs.proofs.OverlapMessages.{all_written}
use Rattle.wire_stream.specs.Replies.{is_failure}
use Rattle.wire_stream.proofs.ReaderLaws.{reader_is}
use Rattle.wire_stream.specs.Version.{default_version}
use Rattle.core_proxy.specs.CoreState.{dialect}
use Rattle.script_events.specs.Scripted.{Scripted}
use Rattle.script_events.proofs.Quiet.{quiet_start}
use Rattle.script_run.specs.Driving.{said_in, IsDoneFor, EventsAreSettled}

nothing_left : (xs ys : List ℕ) → xs ++ ys ≡ [] → (xs ≡ []) × (ys ≡ [])
nothing_left [] ys e = (refl, e)
nothing_left (x ∷ xs) ys e = absurd cc

no_slot : {A : Type 0} (slot : Slot dialect) → ◌≡◌ {A = Option (Slot dialect)} None (Some slot) → A
no_slot slot e = absurd cc

no_queue : {A : Type 0} (slot : Slot dialect) (slots : List (Slot dialect)) → ◌≡◌ {A = List (Slot dialect)} [] (slot ∷ slots) → A
no_queue slot slots e = absurd cc

or_right : (a b : Bool) → b ≡ true → (a || b) ≡ true
or_right true b h = refl
or_right false b h = h

ends_with_last : EndsWithLast dialect
ends_with_last slot reply last = or_right (is_failure reply) (is_last_slot slot) last

-- ---- a client that said nothing

-- how a client stands for which nothing was begun
record IsSilent (front : Front dialect) (queue : List (Slot dialect)) (output given : List ℕ) : Type 0 where
  pub place : front.place ≡ dialect.start
  pub queue_is : queue ≡ []
  pub output_is : output ≡ []
  pub given_is : given ≡ []

module _ (words : Words) (Bars : ℕ → Ask → ℕ → Ask → Type 0) (opening : ℕ → List ℕ → Option Item) where
  silent : (log : List (Entry dialect)) → Follows words Bars opening default_version log → (c : ℕ) → stream_of log c ≡ [] → IsSilent (front_of log c) (queue_of log c) (output_of default_version log c) (given_of log c)
  silent [] f c none = record { place = refl; queue_is = refl; output_is = refl; given_is = refl }
  silent (Feeds client bytes ∷ log) f c none =
      let stream = stream_of log c in
      let front = front_of log c in
      (elim (nat_eq client c) as (λ b. cond b (stream ++ bytes) stream ≡ [] → IsSilent (cond b (fed_front front bytes) front) (queue_of log c) (output_of default_version log c) (given_of log c)) [
        | true ↦ λ e.
            let n = nothing_left stream bytes e in
            let s = silent log f.1 c n.0 in
            record { place = ap (λ p. dialect.fed p bytes) s.place ∙ ap (dialect.fed dialect.start) n.1 ∙ reader_is.fed_nothing; queue_is = s.queue_is; output_is = s.output_is; given_is = s.given_is }
        | false ↦ λ e. silent log f.1 c e
      ]) none
  silent (Starts client number part ∷ log) f c none =
      let front = front_of log c in
      let queue = queue_of log c in
      let s = silent log f.1 c none in
      (elim (nat_eq client c) as (λ b. nat_eq client c ≡ b → IsSilent (cond b (after_start front part) front) (cond b (queue ++ part_slot number part ∷ []) queue) (output_of default_version log c) (given_of log c)) [
        | true ↦ λ same. absurd (quiet_start part.message part.next (subst (λ p. dialect.Reads p part.message part.next) (ap (λ d. (front_of log d).place) (eqb-true client c same) ∙ s.place) f.0.1.reads))
        | false ↦ λ _. s
      ]) refl
  silent (Sends number server ask origin ∷ log) f c none = silent log f.1 c none
  silent (Happens event ∷ log) f c none = silent log f.1 c none
  silent (Ends client number part reply from ∷ log) f c none =
      let front = front_of log c in
      let queue = queue_of log c in
      let s = silent log f.1 c none in
      (elim (nat_eq client c) as (λ b. nat_eq client c ≡ b → IsSilent (cond b (after_end front part reply) front) (cond b (answered_in number reply queue) queue) (output_of default_version log c) (given_of log c)) [
        | true ↦ λ same. no_slot (part_slot number part) (ap (λ q. slot_in q number) (sym (ap (queue_of log) (eqb-true client c same) ∙ s.queue_is)) ∙ f.0.2)
        | false ↦ λ _. s
      ]) refl
  silent (Shows client slot reply ∷ log) f c none =
      let queue = queue_of log c in
      let output = output_of default_version log c in
      let s = silent log f.1 c none in
      (elim (nat_eq client c) as (λ b. nat_eq client c ≡ b → IsSilent (front_of log c) (cond b (behind_head queue) queue) (cond b (output ++ dialect.shown slot.message slot.index reply) output) (given_of log c)) [
        | true ↦ λ same. no_queue slot f.0.0.0 (sym (ap (queue_of log) (eqb-true client c same) ∙ s.queue_is) ∙ f.0.0.1)
        | false ↦ λ _. s
      ]) refl
  silent (Passes client message next ∷ log) f c none =
      let front = front_of log c in
      let output = output_of default_version log c in
      let s = silent log f.1 c none in
      (elim (nat_eq client c) as (λ b. nat_eq client c ≡ b → IsSilent (cond {A = Front dialect} b (record { place = next; index = 0; waits = false }) front) (queue_of log c) (cond b (output ++ dialect.passed default_version message) output) (given_of log c)) [
        | true ↦ λ same. absurd (quiet_start message next (subst (λ p. dialect.Reads p message next) (ap (λ d. (front_of log d).place) (eqb-true client c same) ∙ s.place) f.0.0))
        | false ↦ λ _. s
      ]) refl
  silent (Gives client bytes ∷ log) f c none =
      let given = given_of log c in
      let s = silent log f.1 c none in
      (elim (nat_eq client c) as (λ b. nat_eq client c ≡ b → IsSilent (front_of log c) (queue_of log c) (output_of default_version log c) (cond b (given ++ bytes) given)) [
        | true ↦ λ same. record { place = s.place; queue_is = s.queue_is; output_is = s.output_is; given_is = subst (λ d. given_of log d ++ bytes ≡ output_of default_version log d) (eqb-true client c same) f.0 ∙ s.output_is }
        | false ↦ λ _. s
      ]) refl
  silent (Drops client ∷ log) f c none = silent log f.1 c none
  silent (Frees number ∷ log) f c none = silent log f.1 c none
  silent (Resets client ∷ log) f c none =
      (elim (nat_eq client c) as (λ b. cond b [] (stream_of log c) ≡ [] → IsSilent (cond b start_front (front_of log c)) (cond b [] (queue_of log c)) (cond b [] (output_of default_version log c)) (cond b [] (given_of log c))) [
        | true ↦ λ _. record { place = refl; queue_is = refl; output_is = refl; given_is = refl }
        | false ↦ λ e. silent log f.1 c e
      ]) none

  -- ---- each client

  done_for : (log : List (Entry dialect)) → Follows words Bars opening default_version log → (c : ℕ) → stream_of log c ≡ [] → IsDoneFor log c
  done_for log f c none =
      let s = silent log f c none in
      record { stuck = subst (IsStuck dialect) (sym s.place) quiet_start; shown = s.queue_is; given = s.given_is ∙ sym s.output_is }

  each_done : (events : List Scripted) (log : List (Entry dialect)) → Follows words Bars opening default_version log → ((c : ℕ) → stream_of log c ≡ said_in events c) → EventsAreSettled events log → (c : ℕ) → IsDoneFor log c
  each_done events log f said settled c = elim (settled.clients c) [
    | inl none ↦ done_for log f c (said c ∙ none)
    | inr done ↦ done
  ]

  -- nothing is left to do for any client, whether it said anything or not
  pub all_settled : (events : List Scripted) (log : List (Entry dialect)) → Follows words Bars opening default_version log → ((c : ℕ) → stream_of log c ≡ said_in events c) → EventsAreSettled events log → overlap.NothingIsLeft default_version log
  all_settled events log f said settled =
      let each = each_done events log f said settled in
      record { stuck = λ c. (each c).stuck; shown = λ c. (each c).shown; given = λ c. (each c).given; free = settled.free }

  -- each client's stream is its messages, and the client was given what these show
  pub each_written : (events : List Scripted) (log : List (Entry dialect)) → Follows words Bars opening default_version log → ((c : ℕ) → stream_of log c ≡ said_in events c) → EventsAreSettled events log → (c : ℕ) → WritesAll dialect words Bars opening default_version log c
  each_written events log f said settled c = all_written dialect reader_is ends_with_last words Bars opening default_version log f (all_settled events log f said settled) c
