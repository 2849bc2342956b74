-- The run of a log of overlapping commands, and the messages of its streams.
use Rattle.std.proofs.Common.{◌≡◌, ℕ, ◌+◌, true, false, cond, List, [], ◌∷◌, ◌++◌, Option, refl, sym, ap, subst, nat_eq, append-nil}
use Rattle.std.proofs.lemmas.Bool.{eqb-true}
use Rattle.mc_types.specs.declared.ask.Ask.{Ask}
use Rattle.mc_types.specs.declared.answer.Answer.{Answer}
use Rattle.mc_types.specs.Items.{Item}
use Rattle.fresh_runs.specs.Calls.{Words}
use Rattle.fresh_runs.specs.Run.{Begins, Calls, Replies, Breaks, Turns, Restarts, Run}
use Rattle.fresh_runs.specs.Protocol.{Protocol, IsReader, Goes}
use Rattle.fresh_runs.specs.Log.{Part}
use Rattle.fresh_runs.specs.Overlap.{Front, Entry, Feeds, Starts, Sends, Happens, Ends, Shows, Passes, Gives, Drops, Frees, Resets, is_last, start_front, fed_front, after_start, after_end, run_of, front_of, Follows}
use Rattle.fresh_runs.specs.OverlapStream.{started_by, ended_by, stream_of, messages_of}

module _ (P : Protocol) (words : Words) (Bars : ℕ → Ask → ℕ → Ask → Type 0) (opening : ℕ → List ℕ → Option Item) (version : List ℕ) where
  pub runs : (log : List (Entry P)) → Follows words Bars opening version log → Run words Bars opening (run_of log)
  runs [] f = tt
  runs (Feeds c b ∷ log) f = runs log f.1
  runs (Starts c n part ∷ log) f = (f.0.0, runs log f.1)
  runs (Sends n s a o ∷ log) f = runs log f.1
  runs (Happens (Calls n s a o e) ∷ log) f = (f.0.0, runs log f.1)
  runs (Happens (Turns s k turned) ∷ log) f = (tt, runs log f.1)
  runs (Happens (Restarts s) ∷ log) f = (tt, runs log f.1)
  runs (Happens (Begins n a) ∷ log) f = absurd f.0
  runs (Happens (Replies n k r m) ∷ log) f = absurd f.0
  runs (Happens (Breaks n) ∷ log) f = absurd f.0
  runs (Ends c n part r m ∷ log) f = (f.0.0, runs log f.1)
  runs (Shows c slot r ∷ log) f = runs log f.1
  runs (Passes c m next ∷ log) f = runs log f.1
  runs (Gives c b ∷ log) f = runs log f.1
  runs (Drops c ∷ log) f = runs log f.1
  runs (Frees n ∷ log) f = (f.0.0, runs log f.1)
  runs (Resets c ∷ log) f = runs log f.1

module _ (P : Protocol) where
  goes_more : IsReader P → (from : P.Place) (messages : List P.Message) (to : P.Place) (more : List ℕ) → Goes P from messages to → Goes P (P.fed from more) messages (P.fed to more)
  goes_more r from [] to more g = ap (λ p. P.fed p more) g
  goes_more r from (m ∷ ms) to more g = (P.fed g.0 more, r.goes_on from m g.0 more g.1, goes_more r g.0 ms to more g.2)

  goes_by : (from : P.Place) (messages : List P.Message) (to : P.Place) (m : P.Message) (next : P.Place) → Goes P from messages to → P.Reads to m next → Goes P from (messages ++ m ∷ []) next
  goes_by from [] to m next g e = (next, subst (λ p. P.Reads p m next) (sym g) e, refl)
  goes_by from (x ∷ ms) to m next g e = (g.0, g.1, goes_by g.0 ms to m next g.2 e)

  no_more : (from to : P.Place) (ms : List P.Message) → Goes P from ms to → Goes P from (ms ++ []) to
  no_more from to ms g = subst (λ l. Goes P from l to) (sym (append-nil ms)) g

  one_started : (from : P.Place) (ms : List P.Message) (front : Front P) (part : Part P) → P.Reads front.place part.message part.next → Goes P from ms front.place → Goes P from (ms ++ started_by part) (after_start front part).place
  one_started from ms front part e g =
      elim (is_last part) as (λ b. Goes P from (ms ++ cond b (part.message ∷ []) []) (cond {A = Front P} b (record { place = part.next; index = 0; waits = false }) (record { place = front.place; index = front.index; waits = true })).place) [
        | true ↦ goes_by from ms front.place part.message part.next g e
        | false ↦ no_more from front.place ms g
      ]

  one_ended : (from : P.Place) (ms : List P.Message) (front : Front P) (part : Part P) (reply : Answer) → (is_last part ≡ false → P.Reads front.place part.message part.next) → Goes P from ms front.place → Goes P from (ms ++ ended_by part reply) (after_end front part reply).place
  one_ended from ms front part reply reads g =
      let behind : Front P = record { place = part.next; index = 0; waits = false } in
      let before : Front P = record { place = front.place; index = part.index + 1; waits = false } in
      (elim (is_last part) as (λ b. is_last part ≡ b → Goes P from (ms ++ cond b [] (cond (P.ends part.message part.index reply) (part.message ∷ []) [])) (cond b front (cond (P.ends part.message part.index reply) behind before)).place) [
        | true ↦ λ _. no_more from front.place ms g
        | false ↦ λ more.
            elim (P.ends part.message part.index reply) as (λ b. Goes P from (ms ++ cond b (part.message ∷ []) []) (cond b behind before).place) [
              | true ↦ goes_by from ms front.place part.message part.next g (reads more)
              | false ↦ no_more from front.place ms g
            ]
      ]) refl

  module _ (words : Words) (Bars : ℕ → Ask → ℕ → Ask → Type 0) (opening : ℕ → List ℕ → Option Item) (reader : IsReader P) (version : List ℕ) where
    pub streams : (log : List (Entry P)) → Follows words Bars opening version log → (c : ℕ) → Goes P (P.fed P.start (stream_of log c)) (messages_of log c) (front_of log c).place
    streams [] f c = reader.fed_nothing
    streams (Feeds client bytes ∷ log) f c =
        let stream = stream_of log c in
        let ms = messages_of log c in
        let front = front_of log c in
        elim (nat_eq client c) as (λ b. Goes P (P.fed P.start (cond b (stream ++ bytes) stream)) ms (cond b (fed_front front bytes) front).place) [
          | true ↦ subst (λ p. Goes P p ms (P.fed front.place bytes)) (reader.fed_append P.start stream bytes) (goes_more reader (P.fed P.start stream) ms front.place bytes (streams log f.1 c))
          | false ↦ streams log f.1 c
        ]
    streams (Starts client number part ∷ log) f c =
        let from = P.fed P.start (stream_of log c) in
        let ms = messages_of log c in
        let front = front_of log c in
        (elim (nat_eq client c) as (λ b. nat_eq client c ≡ b → Goes P from (cond b (ms ++ started_by part) ms) (cond b (after_start front part) front).place) [
          | true ↦ λ same. one_started from ms front part (subst (λ d. P.Reads (front_of log d).place part.message part.next) (eqb-true client c same) f.0.1.reads) (streams log f.1 c)
          | false ↦ λ _. streams log f.1 c
        ]) refl
    streams (Sends number server ask origin ∷ log) f c = streams log f.1 c
    streams (Happens event ∷ log) f c = streams log f.1 c
    streams (Ends client number part reply from ∷ log) f c =
        let begin = P.fed P.start (stream_of log c) in
        let ms = messages_of log c in
        let front = front_of log c in
        (elim (nat_eq client c) as (λ b. nat_eq client c ≡ b → Goes P begin (cond b (ms ++ ended_by part reply) ms) (cond b (after_end front part reply) front).place) [
          | true ↦ λ same. one_ended begin ms front part reply (subst (λ d. is_last part ≡ false → P.Reads (front_of log d).place part.message part.next) (eqb-true client c same) f.0.3) (streams log f.1 c)
          | false ↦ λ _. streams log f.1 c
        ]) refl
    streams (Shows client slot reply ∷ log) f c = streams log f.1 c
    streams (Passes client message next ∷ log) f c =
        let from = P.fed P.start (stream_of log c) in
        let ms = messages_of log c in
        let front = front_of log c in
        (elim (nat_eq client c) as (λ b. nat_eq client c ≡ b → Goes P from (cond b (ms ++ message ∷ []) ms) (cond {A = Front P} b (record { place = next; index = 0; waits = false }) front).place) [
          | true ↦ λ same. goes_by from ms front.place message next (streams log f.1 c) (subst (λ d. P.Reads (front_of log d).place message next) (eqb-true client c same) f.0.0)
          | false ↦ λ _. streams log f.1 c
        ]) refl
    streams (Gives client bytes ∷ log) f c = streams log f.1 c
    streams (Drops client ∷ log) f c = streams log f.1 c
    streams (Frees number ∷ log) f c = streams log f.1 c
    streams (Resets client ∷ log) f c =
        elim (nat_eq client c) as (λ b. Goes P (P.fed P.start (cond b [] (stream_of log c))) (cond b [] (messages_of log c)) (cond b start_front (front_of log c)).place) [
          | true ↦ reader.fed_nothing
          | false ↦ streams log f.1 c
        ]
