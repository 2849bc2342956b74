-- The messages of a client of overlapping commands that were done, and those that end within its queue, are those of its stream.
use Rattle.std.proofs.Common.{◌≡◌, ℕ, Bool, true, false, cond, List, [], ◌∷◌, ◌++◌, Option, Some, None, refl, sym, ap, ◌∙◌, subst, nat_eq, map, append_assoc, append-nil}
use Rattle.std.proofs.lemmas.Bool.{eqb-true}
use Rattle.mc_types.specs.declared.ask.Ask.{Ask}
use Rattle.mc_types.specs.declared.answer.Answer.{Answer}
use Rattle.mc_types.specs.Items.{Item}
use Rattle.fresh_runs.specs.Calls.{Words}
use Rattle.fresh_runs.specs.Protocol.{Protocol, IsReader}
use Rattle.fresh_runs.specs.Log.{Part}
use Rattle.fresh_runs.specs.Overlap.{Front, Slot, Entry, Feeds, Starts, Sends, Happens, Ends, Shows, Passes, Gives, Drops, Frees, Resets, is_last, is_last_slot, part_slot, slot_in, answered_in, behind_head, front_of, queue_of, Follows, NothingIsLeft}
use Rattle.fresh_runs.specs.Stream.{Done, written_from, NoneEnds}
use Rattle.fresh_runs.specs.OverlapStream.{EndsWithLast, ends_by, asks_no_more, over_in, started_by, ended_by, done_after, messages_of, replies_of, done_of}
use Rattle.fresh_runs.specs.OverlapLaws.{WritesSoFar, WritesAll}
use Rattle.fresh_runs.proofs.OverlapOutputs.{Pick, Behind, Chain, Awaits, writes, outputs, wholes}
use Rattle.fresh_runs.proofs.OverlapRuns.{streams}

some_slot : {P : Protocol} (a b : Slot P) → ◌≡◌ {A = Option (Slot P)} (Some a) (Some b) → a ≡ b
some_slot a b e = cc

no_slot : {P : Protocol} (a : Slot P) → ◌≡◌ {A = Option (Slot P)} None (Some a) → ⊥
no_slot a e = cc

no_reply : (r : Answer) (rs : List Answer) → ◌≡◌ {A = List Answer} (r ∷ rs) [] → ⊥
no_reply r rs e = cc

module _ (P : Protocol) (reader : IsReader P) (last : EndsWithLast P) where
  abbrev names : List (Done P) → List P.Message
  names ds = map (λ (d : Done P). d.message) ds

  names_more : (ds : List (Done P)) (d : Done P) → names (ds ++ d ∷ []) ≡ names ds ++ d.message ∷ []
  names_more [] d = refl
  names_more (x ∷ ds) d = ap (λ l. x.message ∷ l) (names_more ds d)

  abbrev over : Slot P → List P.Message
  over slot = cond (asks_no_more slot) (slot.message ∷ []) []

  over_more : (xs : List (Slot P)) (y : Slot P) → over_in (xs ++ y ∷ []) ≡ over_in xs ++ over y
  over_more [] y = append-nil (over y)
  over_more (x ∷ xs) y = ap (λ l. over x ++ l) (over_more xs y) ∙ sym (append_assoc (over x) (over_in xs) (over y))

  over_started : (number : ℕ) (part : Part P) → over (part_slot number part) ≡ started_by part
  over_started number part =
      elim (is_last part) as (λ b. cond (ends_by b None (P.ends part.message part.index)) (part.message ∷ []) [] ≡ cond b (part.message ∷ []) []) [
        | true ↦ refl
        | false ↦ refl
      ]

  over_shown : (slot : Slot P) (reply : Answer) → slot.reply ≡ Some reply → over slot ≡ cond (P.ends slot.message slot.index reply) (slot.message ∷ []) []
  over_shown slot reply has =
      ap (λ o. cond (ends_by (is_last_slot slot) o (P.ends slot.message slot.index)) (slot.message ∷ []) []) has
      ∙ (elim (is_last_slot slot) as (λ b. is_last_slot slot ≡ b → cond (ends_by b (Some reply) (P.ends slot.message slot.index)) (slot.message ∷ []) [] ≡ cond (P.ends slot.message slot.index reply) (slot.message ∷ []) []) [
        | true ↦ λ is. ap (λ b. cond b (slot.message ∷ []) []) (sym (last slot reply is))
        | false ↦ λ _. refl
      ]) refl

  -- the rest of a chain is one
  rest_chain : (b : Bool) (reply : Option Answer) (x : Slot P) (xs : List (Slot P)) (replies : List Answer) (rest : List ℕ) (front : Front P) (number : ℕ) (slot : Slot P) → slot_in xs number ≡ Some slot → Behind b reply (Chain P reader [] [] xs front) (λ r. Pick (P.ends x.message x.index r) (Chain P reader [] [] xs front) (Chain P reader (replies ++ r ∷ []) (rest ++ P.shown x.message x.index r) xs front)) (Awaits P reader x xs front) → (rs : List Answer) × (l : List ℕ) × Chain P reader rs l xs front
  rest_chain true reply x xs replies rest front number slot is h = ([], [], h)
  rest_chain false None x xs replies rest front number slot is h = absurd (no_slot slot (ap (λ l. slot_in l number) (sym h.last) ∙ is))
  rest_chain false (Some r) x xs replies rest front number slot is h =
      (elim (P.ends x.message x.index r) as (λ b. Pick b (Chain P reader [] [] xs front) (Chain P reader (replies ++ r ∷ []) (rest ++ P.shown x.message x.index r) xs front) → (rs : List Answer) × (l : List ℕ) × Chain P reader rs l xs front) [
        | true ↦ λ c. ([], [], c)
        | false ↦ λ c. (replies ++ r ∷ [], rest ++ P.shown x.message x.index r, c)
      ]) h

  abbrev replied : Slot P → Answer → Slot P
  replied slot reply = record { number = slot.number; message = slot.message; index = slot.index; ask = slot.ask; reply = Some reply }

  over_head : (number : ℕ) (part : Part P) (xs : List (Slot P)) (replies : List Answer) (rest : List ℕ) (front : Front P) (reply : Answer) → Chain P reader replies rest (part_slot number part ∷ xs) front → over (replied (part_slot number part) reply) ++ over_in xs ≡ (over (part_slot number part) ++ over_in xs) ++ ended_by part reply
  over_head number part xs replies rest front reply h =
      let m = part.message ∷ [] in
      (elim (is_last part) as (λ b. Behind b None (Chain P reader [] [] xs front) (λ r. Pick (P.ends part.message part.index r) (Chain P reader [] [] xs front) (Chain P reader (replies ++ r ∷ []) (rest ++ P.shown part.message part.index r) xs front)) (Awaits P reader (part_slot number part) xs front) → cond (ends_by b (Some reply) (P.ends part.message part.index)) m [] ++ over_in xs ≡ (cond (ends_by b None (P.ends part.message part.index)) m [] ++ over_in xs) ++ cond b [] (cond (P.ends part.message part.index reply) m [])) [
        | true ↦ λ _. sym (append-nil (m ++ over_in xs))
        | false ↦ λ (w : Awaits P reader (part_slot number part) xs front).
            ap (λ l. cond (P.ends part.message part.index reply) m [] ++ over_in l) w.last
            ∙ append-nil (cond (P.ends part.message part.index reply) m [])
            ∙ ap (λ l. over_in l ++ cond (P.ends part.message part.index reply) m []) (sym w.last)
      ]) h.1

  over_ended : (queue : List (Slot P)) (replies : List Answer) (rest : List ℕ) (front : Front P) (number : ℕ) (part : Part P) (reply : Answer) → Chain P reader replies rest queue front → slot_in queue number ≡ Some (part_slot number part) → over_in (answered_in number reply queue) ≡ over_in queue ++ ended_by part reply
  over_ended [] replies rest front number part reply h is = absurd (no_slot (part_slot number part) is)
  over_ended (x ∷ xs) replies rest front number part reply h is =
      (elim (nat_eq x.number number) as (λ b. cond b (Some x) (slot_in xs number) ≡ Some (part_slot number part) → over_in (cond b (replied x reply ∷ xs) (x ∷ answered_in number reply xs)) ≡ over_in (x ∷ xs) ++ ended_by part reply) [
        | true ↦ λ here.
            let same : x ≡ part_slot number part = some_slot x (part_slot number part) here in
            subst (λ y. over (replied y reply) ++ over_in xs ≡ (over y ++ over_in xs) ++ ended_by part reply) (sym same) (over_head number part xs replies rest front reply (subst (λ y. Chain P reader replies rest (y ∷ xs) front) same h))
        | false ↦ λ there.
            let c = rest_chain (is_last_slot x) x.reply x xs replies rest front number (part_slot number part) there h.1 in
            ap (λ l. over x ++ l) (over_ended xs c.0 c.1 front number part reply c.2 there) ∙ sym (append_assoc (over x) (over_in xs) (ended_by part reply))
      ]) is

  shown_over : (slot : Slot P) (slots : List (Slot P)) (rs : List Answer) (ds : List (Done P)) (reply : Answer) → slot.reply ≡ Some reply → names ds ++ over_in (slot ∷ slots) ≡ names (done_after ds rs slot reply) ++ over_in slots
  shown_over slot slots rs ds reply has =
      let d : Done P = record { message = slot.message; replies = rs ++ reply ∷ [] } in
      ap (λ l. names ds ++ (l ++ over_in slots)) (over_shown slot reply has)
      ∙ (elim (P.ends slot.message slot.index reply) as (λ b. names ds ++ (cond b (slot.message ∷ []) [] ++ over_in slots) ≡ names (cond b (ds ++ d ∷ []) ds) ++ over_in slots) [
        | true ↦ sym (append_assoc (names ds) (slot.message ∷ []) (over_in slots)) ∙ ap (λ l. l ++ over_in slots) (sym (names_more ds d))
        | false ↦ refl
      ])

  module _ (words : Words) (Bars : ℕ → Ask → ℕ → Ask → Type 0) (opening : ℕ → List ℕ → Option Item) (version : List ℕ) where
    pub named : (log : List (Entry P)) → Follows words Bars opening version log → (c : ℕ) → messages_of log c ≡ names (done_of log c) ++ over_in (queue_of log c)
    named [] f c = refl
    named (Feeds client bytes ∷ log) f c = named log f.1 c
    named (Starts client number part ∷ log) f c =
        let ds = names (done_of log c) in
        let queue = queue_of log c in
        elim (nat_eq client c) as (λ b. cond b (messages_of log c ++ started_by part) (messages_of log c) ≡ ds ++ over_in (cond b (queue ++ part_slot number part ∷ []) queue)) [
          | true ↦ ap (λ l. l ++ started_by part) (named log f.1 c) ∙ append_assoc ds (over_in queue) (started_by part) ∙ ap (λ l. ds ++ (over_in queue ++ l)) (sym (over_started number part)) ∙ ap (λ l. ds ++ l) (sym (over_more queue (part_slot number part)))
          | false ↦ named log f.1 c
        ]
    named (Sends number server ask origin ∷ log) f c = named log f.1 c
    named (Happens event ∷ log) f c = named log f.1 c
    named (Ends client number part reply from ∷ log) f c =
        let ds = names (done_of log c) in
        let queue = queue_of log c in
        let w = writes P reader words Bars opening version last log f.1 c in
        (elim (nat_eq client c) as (λ b. nat_eq client c ≡ b → cond b (messages_of log c ++ ended_by part reply) (messages_of log c) ≡ ds ++ over_in (cond b (answered_in number reply queue) queue)) [
          | true ↦ λ same. ap (λ l. l ++ ended_by part reply) (named log f.1 c) ∙ append_assoc ds (over_in queue) (ended_by part reply) ∙ ap (λ l. ds ++ l) (sym (over_ended queue (replies_of log c) w.rest (front_of log c) number part reply w.chain (subst (λ d. slot_in (queue_of log d) number ≡ Some (part_slot number part)) (eqb-true client c same) f.0.2)))
          | false ↦ λ _. named log f.1 c
        ]) refl
    named (Shows client slot reply ∷ log) f c =
        let ds = done_of log c in
        let queue = queue_of log c in
        let rs = replies_of log c in
        (elim (nat_eq client c) as (λ b. nat_eq client c ≡ b → messages_of log c ≡ names (cond b (done_after ds rs slot reply) ds) ++ over_in (cond b (behind_head queue) queue)) [
          | true ↦ λ same.
              let is : queue ≡ slot ∷ f.0.0.0 = ap (queue_of log) (sym (eqb-true client c same)) ∙ f.0.0.1 in
              named log f.1 c ∙ ap (λ q. names ds ++ over_in q) is ∙ shown_over slot f.0.0.0 rs ds reply f.0.1 ∙ ap (λ q. names (done_after ds rs slot reply) ++ over_in (behind_head q)) (sym is)
          | false ↦ λ _. named log f.1 c
        ]) refl
    named (Passes client message next ∷ log) f c =
        let ds = done_of log c in
        let queue = queue_of log c in
        let d : Done P = record { message = message; replies = [] } in
        (elim (nat_eq client c) as (λ b. nat_eq client c ≡ b → cond b (messages_of log c ++ message ∷ []) (messages_of log c) ≡ names (cond b (ds ++ d ∷ []) ds) ++ over_in queue) [
          | true ↦ λ same.
              let none : queue ≡ [] = ap (queue_of log) (sym (eqb-true client c same)) ∙ f.0.2 in
              ap (λ l. l ++ message ∷ []) (named log f.1 c ∙ ap (λ q. names ds ++ over_in q) none ∙ append-nil (names ds)) ∙ sym (names_more ds d) ∙ sym (append-nil (names (ds ++ d ∷ []))) ∙ ap (λ q. names (ds ++ d ∷ []) ++ over_in q) (sym none)
          | false ↦ λ _. named log f.1 c
        ]) refl
    named (Gives client bytes ∷ log) f c = named log f.1 c
    named (Drops client ∷ log) f c = named log f.1 c
    named (Frees number ∷ log) f c = named log f.1 c
    named (Resets client ∷ log) f c =
        elim (nat_eq client c) as (λ b. cond b [] (messages_of log c) ≡ names (cond b [] (done_of log c)) ++ over_in (cond b [] (queue_of log c))) [
          | true ↦ refl
          | false ↦ named log f.1 c
        ]

    -- where nothing is left to do, all of them were done
    pub all_named : (log : List (Entry P)) → Follows words Bars opening version log → NothingIsLeft version log → (c : ℕ) → messages_of log c ≡ names (done_of log c)
    all_named log f settled c = named log f c ∙ ap (λ q. names (done_of log c) ++ over_in q) (settled.shown c) ∙ append-nil (names (done_of log c))

    at_rest : (replies : List Answer) (rest : List ℕ) (queue : List (Slot P)) (front : Front P) → Chain P reader replies rest queue front → (replies ≡ [] → rest ≡ []) × ((replies ≡ [] → ⊥) → (message : P.Message) × (rest ≡ written_from P message 0 replies) × NoneEnds P message 0 replies)
    at_rest [] rest [] front h = (λ _. h.at, λ some. absurd (some refl))
    at_rest (r ∷ rs) rest [] front h = (λ none. absurd (no_reply r rs none), λ _. (h.at.0, h.at.4.0, h.at.4.1))
    at_rest [] rest (x ∷ xs) front h = (λ _. h.0.begun.0, λ some. absurd (some refl))
    at_rest (r ∷ rs) rest (x ∷ xs) front h = (λ none. absurd (no_reply r rs none), λ _. (x.message, h.0.begun.0, h.0.begun.1))

    pub so_far : (log : List (Entry P)) → Follows words Bars opening version log → (c : ℕ) → WritesSoFar P words Bars opening version log c
    so_far log f c =
        let w = writes P reader words Bars opening version last log f c in
        record { rest = w.rest; output = w.output_is; whole = w.whole; begun = at_rest (replies_of log c) w.rest (queue_of log c) (front_of log c) w.chain; messages = named log f c }

    pub all_written : (log : List (Entry P)) → Follows words Bars opening version log → NothingIsLeft version log → (c : ℕ) → WritesAll P words Bars opening version log c
    all_written log f settled c =
        record {
          splits = (streams P words Bars opening reader version log f c, settled.stuck c);
          given = outputs P reader words Bars opening version last log f settled c;
          whole = wholes P reader words Bars opening version last log f c;
          messages = all_named log f settled c;
        }
