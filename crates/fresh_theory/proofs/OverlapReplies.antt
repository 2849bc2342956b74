-- The replies that a client was shown are those of its commands, in its order.
use Rattle.std.proofs.Common.{◌≡◌, ℕ, true, false, cond, List, [], ◌∷◌, ◌++◌, Option, Some, None, IfSome, inl, inr, refl, sym, ap, ◌∙◌, subst, nat_eq, map, append_assoc, append-nil}
use Rattle.std.proofs.lemmas.Bool.{eqb-true}
use Rattle.mc_types.specs.declared.ask.Ask.{Ask}
use Rattle.mc_types.specs.declared.answer.Answer.{Answer}
use Rattle.mc_types.specs.Items.{Item}
use Rattle.fresh_runs.specs.Calls.{Words}
use Rattle.fresh_runs.specs.Run.{Event, Begins, Replies, Breaks}
use Rattle.fresh_runs.specs.Protocol.{Protocol}
use Rattle.fresh_runs.specs.Log.{Part}
use Rattle.fresh_runs.specs.Overlap.{Slot, Entry, Feeds, Starts, Sends, Happens, Ends, Shows, Passes, Gives, Drops, Frees, Resets, part_slot, slot_in, answered_in, behind_head, run_of, queue_of, Follows}
use Rattle.fresh_runs.specs.Stream.{Done}
use Rattle.fresh_runs.specs.OverlapStream.{IsReplied, replies_after, done_after, replies_of, done_of, begun_by, shown_slots, all_replies, AreReplies}

some_slot : {P : Protocol} (a b : Slot P) → ◌≡◌ {A = Option (Slot P)} (Some a) (Some b) → a ≡ b
some_slot a b e = cc

module _ (P : Protocol) where
  abbrev numbers : List (Slot P) → List ℕ
  numbers slots = map (λ (s : Slot P). s.number) slots

  numbers_more : (xs ys : List (Slot P)) → numbers (xs ++ ys) ≡ numbers xs ++ numbers ys
  numbers_more [] ys = refl
  numbers_more (x ∷ xs) ys = ap (λ l. x.number ∷ l) (numbers_more xs ys)

  numbers_same : (number : ℕ) (reply : Answer) (xs : List (Slot P)) → numbers (answered_in number reply xs) ≡ numbers xs
  numbers_same number reply [] = refl
  numbers_same number reply (x ∷ xs) =
      elim (nat_eq x.number number) as (λ b. numbers (cond b (record { number = x.number; message = x.message; index = x.index; ask = x.ask; reply = Some reply } ∷ xs) (x ∷ answered_in number reply xs)) ≡ x.number ∷ numbers xs) [
        | true ↦ refl
        | false ↦ ap (λ l. x.number ∷ l) (numbers_same number reply xs)
      ]

  -- a command that has its reply has that of the run
  abbrev AreTold : List Event → List (Slot P) → Type 0
  AreTold past [] = Unit {0}
  AreTold past (slot ∷ slots) = IfSome slot.reply (λ reply. IsReplied past slot.number slot.ask.key reply) × AreTold past slots

  told_later : (event : Event) (past : List Event) (slots : List (Slot P)) → AreTold past slots → AreTold (event ∷ past) slots
  told_later event past [] h = tt
  told_later event past (slot ∷ slots) h = (one slot.reply h.0, told_later event past slots h.1)
    where
      one : (o : Option Answer) → IfSome o (λ reply. IsReplied past slot.number slot.ask.key reply) → IfSome o (λ reply. IsReplied (event ∷ past) slot.number slot.ask.key reply)
      one None h = h
      one (Some reply) h = inr h

  told_more : (past : List Event) (slots : List (Slot P)) (number : ℕ) (part : Part P) → AreTold past slots → AreTold past (slots ++ part_slot number part ∷ [])
  told_more past [] number part h = (tt, tt)
  told_more past (slot ∷ slots) number part h = (h.0, told_more past slots number part h.1)

  told_answered : (past : List Event) (slots : List (Slot P)) (number : ℕ) (part : Part P) (reply : Answer) (from : Option ℕ) → AreTold past slots → slot_in slots number ≡ Some (part_slot number part) → AreTold (Replies number part.ask.key reply from ∷ past) (answered_in number reply slots)
  told_answered past [] number part reply from h is = tt
  told_answered past (x ∷ xs) number part reply from h is =
      let event = Replies number part.ask.key reply from in
      let all = told_later event past (x ∷ xs) h in
      (elim (nat_eq x.number number) as (λ b. cond b (Some x) (slot_in xs number) ≡ Some (part_slot number part) → AreTold (event ∷ past) (cond b (record { number = x.number; message = x.message; index = x.index; ask = x.ask; reply = Some reply } ∷ xs) (x ∷ answered_in number reply xs))) [
        | true ↦ λ here. (inl (ap (λ (s : Slot P). s.number) (sym (some_slot x (part_slot number part) here)), ap (λ (s : Slot P). s.ask.key) (sym (some_slot x (part_slot number part) here)), refl), all.1)
        | false ↦ λ there. (all.0, told_answered past xs number part reply from h.1 there)
      ]) is

  replies_later : (event : Event) (past : List Event) (slots : List (Slot P)) (replies : List Answer) → AreReplies past slots replies → AreReplies (event ∷ past) slots replies
  replies_later event past [] [] h = tt
  replies_later event past [] (r ∷ rs) h = absurd h
  replies_later event past (s ∷ ss) [] h = absurd h
  replies_later event past (s ∷ ss) (r ∷ rs) h = (inr h.0, replies_later event past ss rs h.1)

  replies_more : (past : List Event) (slots : List (Slot P)) (replies : List Answer) (slot : Slot P) (reply : Answer) → AreReplies past slots replies → IsReplied past slot.number slot.ask.key reply → AreReplies past (slots ++ slot ∷ []) (replies ++ reply ∷ [])
  replies_more past [] [] slot reply h one = (one, tt)
  replies_more past [] (r ∷ rs) slot reply h one = absurd h
  replies_more past (s ∷ ss) [] slot reply h one = absurd h
  replies_more past (s ∷ ss) (r ∷ rs) slot reply h one = (h.0, replies_more past ss rs slot reply h.1 one)

  all_more : (ds : List (Done P)) (d : Done P) → all_replies (ds ++ d ∷ []) ≡ all_replies ds ++ d.replies
  all_more [] d = append-nil d.replies
  all_more (x ∷ ds) d = ap (λ l. x.replies ++ l) (all_more ds d) ∙ sym (append_assoc x.replies (all_replies ds) d.replies)

  -- one more reply is shown
  all_shown : (ds : List (Done P)) (rs : List Answer) (slot : Slot P) (reply : Answer) → (all_replies ds ++ rs) ++ reply ∷ [] ≡ all_replies (done_after ds rs slot reply) ++ replies_after rs slot reply
  all_shown ds rs slot reply =
      let d : Done P = record { message = slot.message; replies = rs ++ reply ∷ [] } in
      append_assoc (all_replies ds) rs (reply ∷ [])
      ∙ (elim (P.ends slot.message slot.index reply) as (λ b. all_replies ds ++ (rs ++ reply ∷ []) ≡ all_replies (cond b (ds ++ d ∷ []) ds) ++ cond b [] (rs ++ reply ∷ [])) [
        | true ↦ sym (all_more ds d) ∙ sym (append-nil (all_replies (ds ++ d ∷ [])))
        | false ↦ refl
      ])

  pub record Told (past : List Event) (queue shown : List (Slot P)) (replies : List Answer) (begun : List ℕ) : Type 0 where
    pub told : AreTold past queue
    pub replies_are : AreReplies past shown replies
    pub order : numbers (shown ++ queue) ≡ begun

  told_by : (event : Event) (past : List Event) (queue shown : List (Slot P)) (replies : List Answer) (begun : List ℕ) → Told past queue shown replies begun → Told (event ∷ past) queue shown replies begun
  told_by event past queue shown replies begun t =
      record { told = told_later event past queue t.told; replies_are = replies_later event past shown replies t.replies_are; order = t.order }

  module _ (words : Words) (Bars : ℕ → Ask → ℕ → Ask → Type 0) (opening : ℕ → List ℕ → Option Item) (version : List ℕ) where
    abbrev IsTold : List (Entry P) → ℕ → Type 0
    IsTold log c = Told (run_of log) (queue_of log c) (shown_slots log c) (all_replies (done_of log c) ++ replies_of log c) (begun_by log c)

    pub tells : (log : List (Entry P)) → Follows words Bars opening version log → (c : ℕ) → IsTold log c
    tells [] f c = record { told = tt; replies_are = tt; order = refl }
    tells (Feeds client bytes ∷ log) f c = tells log f.1 c
    tells (Starts client number part ∷ log) f c =
        let t = tells log f.1 c in
        let queue = queue_of log c in
        let shown = shown_slots log c in
        let told = told_later (Begins number part.ask) (run_of log) queue t.told in
        elim (nat_eq client c) as (λ b. Told (Begins number part.ask ∷ run_of log) (cond b (queue ++ part_slot number part ∷ []) queue) shown (all_replies (done_of log c) ++ replies_of log c) (cond b (begun_by log c ++ number ∷ []) (begun_by log c))) [
          | true ↦ record {
            told = told_more (Begins number part.ask ∷ run_of log) queue number part told;
            replies_are = replies_later (Begins number part.ask) (run_of log) shown _ t.replies_are;
            order = ap numbers (sym (append_assoc shown queue (part_slot number part ∷ []))) ∙ numbers_more (shown ++ queue) (part_slot number part ∷ []) ∙ ap (λ l. l ++ number ∷ []) t.order;
          }
          | false ↦ told_by (Begins number part.ask) (run_of log) queue shown _ _ t
        ]
    tells (Sends number server ask origin ∷ log) f c = tells log f.1 c
    tells (Happens event ∷ log) f c = told_by event (run_of log) (queue_of log c) (shown_slots log c) _ _ (tells log f.1 c)
    tells (Ends client number part reply from ∷ log) f c =
        let t = tells log f.1 c in
        let queue = queue_of log c in
        let shown = shown_slots log c in
        let event = Replies number part.ask.key reply from in
        (elim (nat_eq client c) as (λ b. nat_eq client c ≡ b → Told (event ∷ run_of log) (cond b (answered_in number reply queue) queue) shown (all_replies (done_of log c) ++ replies_of log c) (begun_by log c)) [
          | true ↦ λ same. record {
            told = told_answered (run_of log) queue number part reply from t.told (subst (λ d. slot_in (queue_of log d) number ≡ Some (part_slot number part)) (eqb-true client c same) f.0.2);
            replies_are = replies_later event (run_of log) shown _ t.replies_are;
            order = numbers_more shown (answered_in number reply queue) ∙ ap (λ l. numbers shown ++ l) (numbers_same number reply queue) ∙ sym (numbers_more shown queue) ∙ t.order;
          }
          | false ↦ λ _. told_by event (run_of log) queue shown _ _ t
        ]) refl
    tells (Shows client slot reply ∷ log) f c =
        let t = tells log f.1 c in
        let queue = queue_of log c in
        let shown = shown_slots log c in
        let ds = done_of log c in
        let rs = replies_of log c in
        (elim (nat_eq client c) as (λ b. nat_eq client c ≡ b → Told (run_of log) (cond b (behind_head queue) queue) (cond b (shown ++ slot ∷ []) shown) (all_replies (cond b (done_after ds rs slot reply) ds) ++ cond b (replies_after rs slot reply) rs) (begun_by log c)) [
          | true ↦ λ same.
              let is : queue ≡ slot ∷ f.0.0.0 = ap (queue_of log) (sym (eqb-true client c same)) ∙ f.0.0.1 in
              let told : AreTold (run_of log) (slot ∷ f.0.0.0) = subst (AreTold (run_of log)) is t.told in
              let one : IsReplied (run_of log) slot.number slot.ask.key reply = subst (λ o. IfSome o (λ r. IsReplied (run_of log) slot.number slot.ask.key r)) f.0.1 told.0 in
              record {
                told = subst (λ q. AreTold (run_of log) (behind_head q)) (sym is) told.1;
                replies_are = subst (AreReplies (run_of log) (shown ++ slot ∷ [])) (all_shown ds rs slot reply) (replies_more (run_of log) shown (all_replies ds ++ rs) slot reply t.replies_are one);
                order = ap (λ q. numbers ((shown ++ slot ∷ []) ++ behind_head q)) is ∙ ap numbers (append_assoc shown (slot ∷ []) f.0.0.0) ∙ ap (λ q. numbers (shown ++ q)) (sym is) ∙ t.order;
              }
          | false ↦ λ _. t
        ]) refl
    tells (Passes client message next ∷ log) f c =
        let t = tells log f.1 c in
        let ds = done_of log c in
        let d : Done P = record { message = message; replies = [] } in
        elim (nat_eq client c) as (λ b. Told (run_of log) (queue_of log c) (shown_slots log c) (all_replies (cond b (ds ++ d ∷ []) ds) ++ replies_of log c) (begun_by log c)) [
          | true ↦ subst (λ l. Told (run_of log) (queue_of log c) (shown_slots log c) (l ++ replies_of log c) (begun_by log c)) (sym (all_more ds d ∙ append-nil (all_replies ds))) t
          | false ↦ t
        ]
    tells (Gives client bytes ∷ log) f c = tells log f.1 c
    tells (Drops client ∷ log) f c = tells log f.1 c
    tells (Frees number ∷ log) f c = told_by (Breaks number) (run_of log) (queue_of log c) (shown_slots log c) _ _ (tells log f.1 c)
    tells (Resets client ∷ log) f c =
        elim (nat_eq client c) as (λ b. Told (run_of log) (cond b [] (queue_of log c)) (cond b [] (shown_slots log c)) (all_replies (cond b [] (done_of log c)) ++ cond b [] (replies_of log c)) (cond b [] (begun_by log c))) [
          | true ↦ record { told = tt; replies_are = tt; order = refl }
          | false ↦ tells log f.1 c
        ]
