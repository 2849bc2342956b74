-- What a client of overlapping commands is shown is what its messages and their replies show, in its order.
use Rattle.std.proofs.Common.{◌≡◌, ℕ, ◌+◌, Bool, true, false, cond, List, [], ◌∷◌, ◌++◌, length, Option, Some, None, refl, sym, ap, ap₂, ◌∙◌, subst, arith, nat_eq, append_assoc, append-nil, length-append, slice_get}
use Rattle.std.proofs.lemmas.Bool.{eqb-true}
use Rattle.mc_types.specs.declared.ask.Ask.{Ask}
use Rattle.mc_types.specs.declared.answer.Answer.{Answer}
use Rattle.mc_types.specs.Items.{Item}
use Rattle.fresh_runs.specs.Calls.{Words}
use Rattle.fresh_runs.specs.Protocol.{Protocol, IsReader, IsStuck}
use Rattle.fresh_runs.specs.Log.{Part}
use Rattle.fresh_runs.specs.Overlap.{Front, Slot, Entry, Feeds, Starts, Sends, Happens, Ends, Shows, Passes, Gives, Drops, Frees, Resets, is_last, is_last_slot, start_front, fed_front, after_start, after_end, part_slot, slot_in, answered_in, behind_head, front_of, queue_of, output_of, given_of, IsNext, NothingIsLeft, Follows}
use Rattle.fresh_runs.specs.Stream.{Done, written_from, written, written_all, NoneEnds, LastEnds, IsWhole, AreWhole}
use Rattle.fresh_runs.specs.OverlapStream.{EndsWithLast, replies_after, done_after, replies_of, done_of}

no_ask : (asks : List Ask) (i : ℕ) (ask : Ask) → slice_get asks i ≡ Some ask → asks ≡ [] → ⊥
no_ask [] i ask e is = cc
no_ask (x ∷ asks) i ask e is = cc

-- one of two, by a test
abbrev pub Pick : Bool → Type 0 → Type 0 → Type 0
Pick true A B = A
Pick false A B = B

pick_map : (b : Bool) {A B C D : Type 0} → (A → C) → (B → D) → Pick b A B → Pick b C D
pick_map true f g x = f x
pick_map false f g x = g x

-- what follows a command in a queue: after its message's last key, after a reply, or nothing yet
abbrev pub Behind : Bool → Option Answer → Type 0 → (Answer → Type 0) → Type 0 → Type 0
Behind true reply fresh more waiting = fresh
Behind false None fresh more waiting = waiting
Behind false (Some r) fresh more waiting = more r

behind_map : (b : Bool) (reply : Option Answer) {A C : Type 0} {M N : Answer → Type 0} {W X : Type 0} → (A → C) → ((r : Answer) → M r → N r) → (W → X) → Behind b reply A M W → Behind b reply C N X
behind_map true reply f g h x = f x
behind_map false None f g h x = h x
behind_map false (Some r) f g h x = g r x

some_slot : {P : Protocol} (a b : Slot P) → ◌≡◌ {A = Option (Slot P)} (Some a) (Some b) → a ≡ b
some_slot a b e = cc

no_slot : {P : Protocol} (a : Slot P) → ◌≡◌ {A = Option (Slot P)} None (Some a) → ⊥
no_slot a e = cc

module _ (P : Protocol) (reader : IsReader P) where
  written_more : (m : P.Message) (i : ℕ) (rs : List Answer) (r : Answer) → written_from P m i (rs ++ r ∷ []) ≡ written_from P m i rs ++ P.shown m (i + length rs) r
  written_more m i [] r = append-nil (P.shown m i r) ∙ ap (λ n. P.shown m n r) (omega arith)
  written_more m i (x ∷ rs) r =
      let at : i + 1 + length rs ≡ i + length (x ∷ rs) = omega arith in
      ap (λ l. P.shown m i x ++ l) (written_more m (i + 1) rs r ∙ ap (λ n. written_from P m (i + 1) rs ++ P.shown m n r) at)
      ∙ sym (append_assoc (P.shown m i x) (written_from P m (i + 1) rs) (P.shown m (i + length (x ∷ rs)) r))

  all_more : (version : List ℕ) (ds : List (Done P)) (d : Done P) → written_all P version (ds ++ d ∷ []) ≡ written_all P version ds ++ written P version d.message d.replies
  all_more version [] d = append-nil (written P version d.message d.replies)
  all_more version (x ∷ ds) d =
      ap (λ l. written P version x.message x.replies ++ l) (all_more version ds d) ∙ sym (append_assoc (written P version x.message x.replies) (written_all P version ds) (written P version d.message d.replies))

  whole_more : (ds : List (Done P)) (d : Done P) → AreWhole P ds → IsWhole P d.message d.replies → AreWhole P (ds ++ d ∷ [])
  whole_more [] d all one = (one, tt)
  whole_more (x ∷ ds) d all one = (all.0, whole_more ds d all.1 one)

  none_more : (m : P.Message) (i : ℕ) (rs : List Answer) (r : Answer) → NoneEnds P m i rs → P.ends m (i + length rs) r ≡ false → NoneEnds P m i (rs ++ r ∷ [])
  none_more m i [] r h e = let at : i + 0 ≡ i = omega arith in (subst (λ n. P.ends m n r ≡ false) at e, tt)
  none_more m i (x ∷ rs) r h e = let at : i + length (x ∷ rs) ≡ i + 1 + length rs = omega arith in (h.0, none_more m (i + 1) rs r h.1 (subst (λ n. P.ends m n r ≡ false) at e))

  last_more : (m : P.Message) (i : ℕ) (rs : List Answer) (r : Answer) → NoneEnds P m i rs → P.ends m (i + length rs) r ≡ true → LastEnds P m i (rs ++ r ∷ [])
  last_more m i [] r h e = let at : i + 0 ≡ i = omega arith in subst (λ n. P.ends m n r ≡ true) at e
  last_more m i (x ∷ []) r h e = let at : i + length (x ∷ []) ≡ i + 1 + 0 = omega arith in (h.0, last_more m (i + 1) [] r h.1 (subst (λ n. P.ends m n r ≡ true) at e))
  last_more m i (x ∷ y ∷ rs) r h e = let at : i + length (x ∷ y ∷ rs) ≡ i + 1 + length (y ∷ rs) = omega arith in (h.0, last_more m (i + 1) (y ∷ rs) r h.1 (subst (λ n. P.ends m n r ≡ true) at e))

  whole_by : (m : P.Message) (rs : List Answer) (r : Answer) → LastEnds P m 0 (rs ++ r ∷ []) → IsWhole P m (rs ++ r ∷ [])
  whole_by m [] r h = h
  whole_by m (x ∷ rs) r h = h

  written_is : (version : List ℕ) (m : P.Message) (rs : List Answer) (r : Answer) → written P version m (rs ++ r ∷ []) ≡ written_from P m 0 (rs ++ r ∷ [])
  written_is version m [] r = refl
  written_is version m (x ∷ rs) r = refl

  -- this is what was shown of the message, by these replies, which didn't end it
  abbrev IsBegun : P.Message → List Answer → List ℕ → Type 0
  IsBegun message replies rest = (rest ≡ written_from P message 0 replies) × NoneEnds P message 0 replies

  -- the command is the next key of what was shown
  pub record Fits (replies : List Answer) (rest : List ℕ) (slot : Slot P) : Type 0 where
    pub begun : IsBegun slot.message replies rest
    pub index : slot.index ≡ length replies
    pub asks : slice_get (P.asks_of slot.message) slot.index ≡ Some slot.ask

  -- of which message that was, where all started commands were shown
  abbrev AtRest : P.Place → List Answer → List ℕ → Type 0
  AtRest place [] rest = rest ≡ []
  AtRest place (r ∷ rs) rest = (message : P.Message) × (next : P.Place) × P.Reads place message next × (P.asks_of message ≡ [] → ⊥) × IsBegun message (r ∷ rs) rest

  pub record Rests (replies : List Answer) (rest : List ℕ) (front : Front P) : Type 0 where
    pub ready : front.waits ≡ false
    pub index : front.index ≡ length replies
    pub at : AtRest front.place replies rest

  -- the command is the last of the queue, and its reply is waited for
  pub record Awaits (slot : Slot P) (slots : List (Slot P)) (front : Front P) : Type 0 where
    pub last : slots ≡ []
    pub waits : front.waits ≡ true
    pub next : P.Place
    pub reads : P.Reads front.place slot.message next

  -- the commands of a queue are one key after another, from what was shown to where the starting stands
  abbrev pub Chain : List Answer → List ℕ → List (Slot P) → Front P → Type 0
  Chain replies rest [] front = Rests replies rest front
  Chain replies rest (slot ∷ slots) front =
      Fits replies rest slot
      × Behind (is_last_slot slot) slot.reply (Chain [] [] slots front) (λ r. Pick (P.ends slot.message slot.index r) (Chain [] [] slots front) (Chain (replies ++ r ∷ []) (rest ++ P.shown slot.message slot.index r) slots front)) (Awaits slot slots front)

  -- a command more
  fits_next : (replies : List Answer) (rest : List ℕ) (front : Front P) (number : ℕ) (part : Part P) → Rests replies rest front → IsNext front part → Fits replies rest (part_slot number part)
  fits_next [] rest front number part h n = record { begun = (h.at, tt); index = n.index ∙ h.index; asks = n.asks }
  fits_next (r ∷ rs) rest front number part h n =
      record {
        begun = subst (λ m. IsBegun m (r ∷ rs) rest) (reader.one_message front.place h.at.0 part.message h.at.1 part.next h.at.2 n.reads).0 h.at.4;
        index = n.index ∙ h.index;
        asks = n.asks;
      }

  true_false : {A : Type 0} (b : Bool) → b ≡ true → b ≡ false → A
  true_false true e f = absurd cc
  true_false false e f = absurd cc

  chain_start : (queue : List (Slot P)) (replies : List Answer) (rest : List ℕ) (front : Front P) (number : ℕ) (part : Part P) → Chain replies rest queue front → IsNext front part → Chain replies rest (queue ++ part_slot number part ∷ []) (after_start front part)
  chain_start [] replies rest front number part h n = (
    fits_next replies rest front number part h n,
    elim (is_last part) as (λ b. Behind b None (Chain [] [] [] (cond {A = Front P} b (record { place = part.next; index = 0; waits = false }) (record { place = front.place; index = front.index; waits = true }))) (λ r. Pick (P.ends part.message part.index r) (Chain [] [] [] (cond {A = Front P} b (record { place = part.next; index = 0; waits = false }) (record { place = front.place; index = front.index; waits = true }))) (Chain (replies ++ r ∷ []) (rest ++ P.shown part.message part.index r) [] (cond {A = Front P} b (record { place = part.next; index = 0; waits = false }) (record { place = front.place; index = front.index; waits = true })))) (Awaits (part_slot number part) [] (cond {A = Front P} b (record { place = part.next; index = 0; waits = false }) (record { place = front.place; index = front.index; waits = true })))) [
      | true ↦ record { ready = refl; index = refl; at = refl }
      | false ↦ record { last = refl; waits = refl; next = part.next; reads = n.reads }
    ],
  )
  chain_start (x ∷ xs) replies rest front number part h n = (
    h.0,
    behind_map (is_last_slot x) x.reply
        (λ c. chain_start xs [] [] front number part c n)
        (λ r. pick_map (P.ends x.message x.index r)
        (λ c. chain_start xs [] [] front number part c n)
        (λ c. chain_start xs (replies ++ r ∷ []) (rest ++ P.shown x.message x.index r) front number part c n))
        (λ (w : Awaits x xs front). true_false front.waits w.waits n.ready)
        h.1,
  )

  -- a piece more
  at_rest_fed : (place : P.Place) (replies : List Answer) (rest bytes : List ℕ) → AtRest place replies rest → AtRest (P.fed place bytes) replies rest
  at_rest_fed place [] rest bytes h = h
  at_rest_fed place (r ∷ rs) rest bytes h = (h.0, P.fed h.1 bytes, reader.goes_on place h.0 h.1 bytes h.2, h.3, h.4)

  chain_fed : (queue : List (Slot P)) (replies : List Answer) (rest : List ℕ) (front : Front P) (bytes : List ℕ) → Chain replies rest queue front → Chain replies rest queue (fed_front front bytes)
  chain_fed [] replies rest front bytes h = record { ready = h.ready; index = h.index; at = at_rest_fed front.place replies rest bytes h.at }
  chain_fed (x ∷ xs) replies rest front bytes h = (
    h.0,
    behind_map (is_last_slot x) x.reply
        (λ c. chain_fed xs [] [] front bytes c)
        (λ r. pick_map (P.ends x.message x.index r)
        (λ c. chain_fed xs [] [] front bytes c)
        (λ c. chain_fed xs (replies ++ r ∷ []) (rest ++ P.shown x.message x.index r) front bytes c))
        (λ (w : Awaits x xs front). record { last = w.last; waits = w.waits; next = P.fed w.next bytes; reads = reader.goes_on front.place x.message w.next bytes w.reads })
        h.1,
  )

  -- a reply more
  abbrev replied : Slot P → Answer → Slot P
  replied slot reply = record { number = slot.number; message = slot.message; index = slot.index; ask = slot.ask; reply = Some reply }

  -- what is shown goes on by a reply that doesn't end its message
  begun_more : (slot : Slot P) (replies : List Answer) (rest : List ℕ) (reply : Answer) → Fits replies rest slot → P.ends slot.message slot.index reply ≡ false → IsBegun slot.message (replies ++ reply ∷ []) (rest ++ P.shown slot.message slot.index reply)
  begun_more slot replies rest reply fits goes =
      let at : slot.index ≡ 0 + length replies = let e = fits.index in omega (arith, e) in (
        ap₂ (λ l i. l ++ P.shown slot.message i reply) fits.begun.0 at ∙ sym (written_more slot.message 0 replies reply),
        none_more slot.message 0 replies reply fits.begun.1 (subst (λ i. P.ends slot.message i reply ≡ false) at goes),
      )

  rests_more : (place next : P.Place) (slot : Slot P) (replies : List Answer) (rest : List ℕ) (reply : Answer) → P.Reads place slot.message next → Fits replies rest slot → P.ends slot.message slot.index reply ≡ false → AtRest place (replies ++ reply ∷ []) (rest ++ P.shown slot.message slot.index reply)
  rests_more place next slot [] rest reply reads fits goes = (slot.message, next, reads, no_ask (P.asks_of slot.message) slot.index slot.ask fits.asks, begun_more slot [] rest reply fits goes)
  rests_more place next slot (r ∷ rs) rest reply reads fits goes = (slot.message, next, reads, no_ask (P.asks_of slot.message) slot.index slot.ask fits.asks, begun_more slot (r ∷ rs) rest reply fits goes)

  abbrev behind_reply : Bool → Front P → Part P → Front P
  behind_reply b front part =
      cond {A = Front P} b (record { place = part.next; index = 0; waits = false }) (record { place = front.place; index = part.index + 1; waits = false })

  -- the reply that was waited for
  awaited : (number : ℕ) (part : Part P) (slots : List (Slot P)) (replies : List Answer) (rest : List ℕ) (front : Front P) (reply : Answer) → Fits replies rest (part_slot number part) → Awaits (part_slot number part) slots front → P.Reads front.place part.message part.next → Pick (P.ends part.message part.index reply) (Chain [] [] slots (behind_reply (P.ends part.message part.index reply) front part)) (Chain (replies ++ reply ∷ []) (rest ++ P.shown part.message part.index reply) slots (behind_reply (P.ends part.message part.index reply) front part))
  awaited number part slots replies rest front reply fits w reads =
      subst (λ l. Pick (P.ends part.message part.index reply) (Chain [] [] l (behind_reply (P.ends part.message part.index reply) front part)) (Chain (replies ++ reply ∷ []) (rest ++ P.shown part.message part.index reply) l (behind_reply (P.ends part.message part.index reply) front part))) (sym w.last)
      ((elim (P.ends part.message part.index reply) as (λ b. P.ends part.message part.index reply ≡ b → Pick b (Rests [] [] (behind_reply b front part)) (Rests (replies ++ reply ∷ []) (rest ++ P.shown part.message part.index reply) (behind_reply b front part))) [
        | true ↦ λ _. record { ready = refl; index = refl; at = refl }
        | false ↦ λ goes.
            record {
              ready = refl;
              index = ap (λ i. i + 1) fits.index ∙ sym (length-append replies (reply ∷ []));
              at = rests_more front.place part.next (part_slot number part) replies rest reply reads fits goes;
            }
      ]) refl)

  chain_end_head : (number : ℕ) (part : Part P) (slots : List (Slot P)) (replies : List Answer) (rest : List ℕ) (front : Front P) (reply : Answer) → Chain replies rest (part_slot number part ∷ slots) front → (is_last part ≡ false → P.Reads front.place part.message part.next) → Chain replies rest (replied (part_slot number part) reply ∷ slots) (after_end front part reply)
  chain_end_head number part slots replies rest front reply h reads = (
    record { begun = h.0.begun; index = h.0.index; asks = h.0.asks },
    (elim (is_last part) as (λ b. is_last part ≡ b → Behind b None (Chain [] [] slots front) (λ r. Pick (P.ends part.message part.index r) (Chain [] [] slots front) (Chain (replies ++ r ∷ []) (rest ++ P.shown part.message part.index r) slots front)) (Awaits (part_slot number part) slots front) → Behind b (Some reply) (Chain [] [] slots (cond b front (behind_reply (P.ends part.message part.index reply) front part))) (λ r. Pick (P.ends part.message part.index r) (Chain [] [] slots (cond b front (behind_reply (P.ends part.message part.index reply) front part))) (Chain (replies ++ r ∷ []) (rest ++ P.shown part.message part.index r) slots (cond b front (behind_reply (P.ends part.message part.index reply) front part)))) (Awaits (replied (part_slot number part) reply) slots (cond b front (behind_reply (P.ends part.message part.index reply) front part)))) [
      | true ↦ λ _ c. c
      | false ↦ λ more w. awaited number part slots replies rest front reply h.0 w (reads more)
    ]) refl h.1,
  )

  chain_end : (queue : List (Slot P)) (replies : List Answer) (rest : List ℕ) (front : Front P) (number : ℕ) (part : Part P) (reply : Answer) → Chain replies rest queue front → slot_in queue number ≡ Some (part_slot number part) → (is_last part ≡ false → P.Reads front.place part.message part.next) → Chain replies rest (answered_in number reply queue) (after_end front part reply)
  chain_end [] replies rest front number part reply h is reads = absurd (no_slot (part_slot number part) is)
  chain_end (x ∷ xs) replies rest front number part reply h is reads =
      (elim (nat_eq x.number number) as (λ b. cond b (Some x) (slot_in xs number) ≡ Some (part_slot number part) → Chain replies rest (cond b (replied x reply ∷ xs) (x ∷ answered_in number reply xs)) (after_end front part reply)) [
        | true ↦ λ here. subst (λ y. Chain replies rest (replied y reply ∷ xs) (after_end front part reply)) (sym (some_slot x (part_slot number part) here)) (chain_end_head number part xs replies rest front reply (subst (λ y. Chain replies rest (y ∷ xs) front) (some_slot x (part_slot number part) here) h) reads)
        | false ↦ λ there. (
          h.0,
          behind_map (is_last_slot x) x.reply
              (λ c. chain_end xs [] [] front number part reply c there reads)
              (λ r. pick_map (P.ends x.message x.index r)
              (λ c. chain_end xs [] [] front number part reply c there reads)
              (λ c. chain_end xs (replies ++ r ∷ []) (rest ++ P.shown x.message x.index r) front number part reply c there reads))
              (λ (w : Awaits x xs front). absurd (no_slot (part_slot number part) (ap (λ l. slot_in l number) (sym w.last) ∙ there)))
              h.1,
        )
      ]) is

  pub record Written (version : List ℕ) (queue : List (Slot P)) (front : Front P) (replies : List Answer) (done : List (Done P)) (output : List ℕ) : Type 0 where
    pub rest : List ℕ
    pub output_is : output ≡ written_all P version done ++ rest
    pub chain : Chain replies rest queue front
    pub whole : AreWhole P done

  -- what follows a command whose reply is known
  chain_behind : EndsWithLast P → (slot : Slot P) (slots : List (Slot P)) (replies : List Answer) (rest : List ℕ) (front : Front P) (reply : Answer) → slot.reply ≡ Some reply → Chain replies rest (slot ∷ slots) front → Pick (P.ends slot.message slot.index reply) (Chain [] [] slots front) (Chain (replies ++ reply ∷ []) (rest ++ P.shown slot.message slot.index reply) slots front)
  chain_behind last slot slots replies rest front reply has h =
      (elim (is_last_slot slot) as (λ b. is_last_slot slot ≡ b → Behind b (Some reply) (Chain [] [] slots front) (λ r. Pick (P.ends slot.message slot.index r) (Chain [] [] slots front) (Chain (replies ++ r ∷ []) (rest ++ P.shown slot.message slot.index r) slots front)) (Awaits slot slots front) → Pick (P.ends slot.message slot.index reply) (Chain [] [] slots front) (Chain (replies ++ reply ∷ []) (rest ++ P.shown slot.message slot.index reply) slots front)) [
        | true ↦ λ is c. subst (λ b. Pick b (Chain [] [] slots front) (Chain (replies ++ reply ∷ []) (rest ++ P.shown slot.message slot.index reply) slots front)) (sym (last slot reply is)) c
        | false ↦ λ _ c. c
      ]) refl (subst (λ o. Behind (is_last_slot slot) o (Chain [] [] slots front) (λ r. Pick (P.ends slot.message slot.index r) (Chain [] [] slots front) (Chain (replies ++ r ∷ []) (rest ++ P.shown slot.message slot.index r) slots front)) (Awaits slot slots front)) has h.1)

  shown_written : EndsWithLast P → (version : List ℕ) (slot : Slot P) (slots : List (Slot P)) (front : Front P) (rs : List Answer) (ds : List (Done P)) (out : List ℕ) (reply : Answer) → slot.reply ≡ Some reply → Written version (slot ∷ slots) front rs ds out → Written version slots front (replies_after rs slot reply) (done_after ds rs slot reply) (out ++ P.shown slot.message slot.index reply)
  shown_written last version slot slots front rs ds out reply has w =
      let all = rs ++ reply ∷ [] in
      let m = slot.message in
      let fits = w.chain.0 in
      let d : Done P = record { message = m; replies = all } in
      let at : slot.index ≡ 0 + length rs = let e = fits.index in omega (arith, e) in
      let behind : w.rest ++ P.shown m slot.index reply ≡ written_from P m 0 all = ap₂ (λ l i. l ++ P.shown m i reply) fits.begun.0 at ∙ sym (written_more m 0 rs reply) in
      let out_is : out ++ P.shown m slot.index reply ≡ written_all P version ds ++ (w.rest ++ P.shown m slot.index reply) =
      ap (λ l. l ++ P.shown m slot.index reply) w.output_is ∙ append_assoc (written_all P version ds) w.rest (P.shown m slot.index reply) in
      (elim (P.ends m slot.index reply) as (λ b. P.ends m slot.index reply ≡ b → Pick b (Chain [] [] slots front) (Chain all (w.rest ++ P.shown m slot.index reply) slots front) → Written version slots front (cond b [] all) (cond b (ds ++ d ∷ []) ds) (out ++ P.shown m slot.index reply)) [
        | true ↦ λ ends c.
            record {
              rest = [];
              output_is = out_is ∙ ap (λ l. written_all P version ds ++ l) (behind ∙ sym (written_is version m rs reply)) ∙ sym (all_more version ds d) ∙ sym (append-nil (written_all P version (ds ++ d ∷ [])));
              chain = c;
              whole = whole_more ds d w.whole (whole_by m rs reply (last_more m 0 rs reply fits.begun.1 (subst (λ i. P.ends m i reply ≡ true) at ends)));
            }
        | false ↦ λ goes c. record { rest = w.rest ++ P.shown m slot.index reply; output_is = out_is; chain = c; whole = w.whole }
      ]) refl (chain_behind last slot slots rs w.rest front reply has w.chain)

  -- before a message that asks no server no reply is waiting
  none_begun : (place next : P.Place) (message : P.Message) (rs : List Answer) (rest : List ℕ) → AtRest place rs rest → P.Reads place message next → P.asks_of message ≡ [] → (rs ≡ []) × (rest ≡ [])
  none_begun place next message [] rest h reads asks = (refl, h)
  none_begun place next message (r ∷ rs) rest h reads asks =
      absurd (h.3 (ap P.asks_of (reader.one_message place h.0 message h.1 next h.2 reads).0 ∙ asks))

  passed_written : (version : List ℕ) (queue : List (Slot P)) (front : Front P) (rs : List Answer) (ds : List (Done P)) (out : List ℕ) (message : P.Message) (next : P.Place) → queue ≡ [] → Written version queue front rs ds out → P.Reads front.place message next → P.asks_of message ≡ [] → Written version queue (record { place = next; index = 0; waits = false }) rs (ds ++ record { message = message; replies = [] } ∷ []) (out ++ P.passed version message)
  passed_written version queue front rs ds out message next empty w reads asks =
      let rests : Rests rs w.rest front = subst (λ q. Chain rs w.rest q front) empty w.chain in
      let none = none_begun front.place next message rs w.rest rests.at reads asks in
      let out_is : out ≡ written_all P version ds = w.output_is ∙ ap (λ l. written_all P version ds ++ l) none.1 ∙ append-nil (written_all P version ds) in
      let point : Front P = record { place = next; index = 0; waits = false } in
      let fresh : Rests [] [] point = record { ready = refl; index = refl; at = refl } in
      record {
        rest = [];
        output_is = ap (λ l. l ++ P.passed version message) out_is ∙ sym (all_more version ds (record { message = message; replies = [] })) ∙ sym (append-nil (written_all P version (ds ++ record { message = message; replies = [] } ∷ [])));
        chain = subst (λ q. Chain rs [] q point) (sym empty) (subst (λ l. Rests l [] point) (sym none.0) fresh);
        whole = whole_more ds (record { message = message; replies = [] }) w.whole asks;
      }

  nothing_written : (version : List ℕ) → Written version [] start_front [] [] []
  nothing_written version = record { rest = []; output_is = refl; chain = record { ready = refl; index = refl; at = refl }; whole = tt }

  module _ (words : Words) (Bars : ℕ → Ask → ℕ → Ask → Type 0) (opening : ℕ → List ℕ → Option Item) (version : List ℕ) (last : EndsWithLast P) where
    abbrev IsWritten : List (Entry P) → ℕ → Type 0
    IsWritten log c = Written version (queue_of log c) (front_of log c) (replies_of log c) (done_of log c) (output_of version log c)

    pub writes : (log : List (Entry P)) → Follows words Bars opening version log → (c : ℕ) → IsWritten log c
    writes [] f c = nothing_written version
    writes (Feeds client bytes ∷ log) f c =
        let w = writes log f.1 c in
        elim (nat_eq client c) as (λ b. Written version (queue_of log c) (cond b (fed_front (front_of log c) bytes) (front_of log c)) (replies_of log c) (done_of log c) (output_of version log c)) [
          | true ↦ record { rest = w.rest; output_is = w.output_is; chain = chain_fed (queue_of log c) (replies_of log c) w.rest (front_of log c) bytes w.chain; whole = w.whole }
          | false ↦ w
        ]
    writes (Starts client number part ∷ log) f c =
        let w = writes log f.1 c in
        let queue = queue_of log c in
        let front = front_of log c in
        (elim (nat_eq client c) as (λ b. nat_eq client c ≡ b → Written version (cond b (queue ++ part_slot number part ∷ []) queue) (cond b (after_start front part) front) (replies_of log c) (done_of log c) (output_of version log c)) [
          | true ↦ λ same. record { rest = w.rest; output_is = w.output_is; chain = chain_start queue (replies_of log c) w.rest front number part w.chain (subst (λ d. IsNext (front_of log d) part) (eqb-true client c same) f.0.1); whole = w.whole }
          | false ↦ λ _. w
        ]) refl
    writes (Sends number server ask origin ∷ log) f c = writes log f.1 c
    writes (Happens event ∷ log) f c = writes log f.1 c
    writes (Ends client number part reply from ∷ log) f c =
        let w = writes log f.1 c in
        let queue = queue_of log c in
        let front = front_of log c in
        (elim (nat_eq client c) as (λ b. nat_eq client c ≡ b → Written version (cond b (answered_in number reply queue) queue) (cond b (after_end front part reply) front) (replies_of log c) (done_of log c) (output_of version log c)) [
          | true ↦ λ same. record { rest = w.rest; output_is = w.output_is; chain = chain_end queue (replies_of log c) w.rest front number part reply w.chain (subst (λ d. slot_in (queue_of log d) number ≡ Some (part_slot number part)) (eqb-true client c same) f.0.2) (subst (λ d. is_last part ≡ false → P.Reads (front_of log d).place part.message part.next) (eqb-true client c same) f.0.3); whole = w.whole }
          | false ↦ λ _. w
        ]) refl
    writes (Shows client slot reply ∷ log) f c =
        let w = writes log f.1 c in
        let queue = queue_of log c in
        let front = front_of log c in
        let rs = replies_of log c in
        let ds = done_of log c in
        let out = output_of version log c in
        (elim (nat_eq client c) as (λ b. nat_eq client c ≡ b → Written version (cond b (behind_head queue) queue) front (cond b (replies_after rs slot reply) rs) (cond b (done_after ds rs slot reply) ds) (cond b (out ++ P.shown slot.message slot.index reply) out)) [
          | true ↦ λ same.
              let is : queue ≡ slot ∷ f.0.0.0 = ap (queue_of log) (sym (eqb-true client c same)) ∙ f.0.0.1 in
              subst (λ q. Written version q front (replies_after rs slot reply) (done_after ds rs slot reply) (out ++ P.shown slot.message slot.index reply)) (sym (ap behind_head is)) (shown_written last version slot f.0.0.0 front rs ds out reply f.0.1 (subst (λ q. Written version q front rs ds out) is w))
          | false ↦ λ _. w
        ]) refl
    writes (Passes client message next ∷ log) f c =
        let w = writes log f.1 c in
        let queue = queue_of log c in
        let front = front_of log c in
        let rs = replies_of log c in
        let ds = done_of log c in
        let out = output_of version log c in
        (elim (nat_eq client c) as (λ b. nat_eq client c ≡ b → Written version queue (cond {A = Front P} b (record { place = next; index = 0; waits = false }) front) rs (cond b (ds ++ record { message = message; replies = [] } ∷ []) ds) (cond b (out ++ P.passed version message) out)) [
          | true ↦ λ same. passed_written version queue front rs ds out message next (ap (queue_of log) (sym (eqb-true client c same)) ∙ f.0.2) w (subst (λ d. P.Reads (front_of log d).place message next) (eqb-true client c same) f.0.0) f.0.1
          | false ↦ λ _. w
        ]) refl
    writes (Gives client bytes ∷ log) f c = writes log f.1 c
    writes (Drops client ∷ log) f c = writes log f.1 c
    writes (Frees number ∷ log) f c = writes log f.1 c
    writes (Resets client ∷ log) f c =
        elim (nat_eq client c) as (λ b. Written version (cond b [] (queue_of log c)) (cond b start_front (front_of log c)) (cond b [] (replies_of log c)) (cond b [] (done_of log c)) (cond b [] (output_of version log c))) [
          | true ↦ nothing_written version
          | false ↦ writes log f.1 c
        ]

    nothing_begun : (place : P.Place) (rs : List Answer) (rest : List ℕ) → IsStuck P place → AtRest place rs rest → rest ≡ []
    nothing_begun place [] rest stuck h = h
    nothing_begun place (r ∷ rs) rest stuck h = absurd (stuck h.0 h.1 h.2)

    pub outputs : (log : List (Entry P)) → Follows words Bars opening version log → NothingIsLeft version log → (c : ℕ) → given_of log c ≡ written_all P version (done_of log c)
    outputs log f settled c =
        let w = writes log f c in
        let rests : Rests (replies_of log c) w.rest (front_of log c) = subst (λ q. Chain (replies_of log c) w.rest q (front_of log c)) (settled.shown c) w.chain in
        settled.given c ∙ w.output_is ∙ ap (λ l. written_all P version (done_of log c) ++ l) (nothing_begun (front_of log c).place (replies_of log c) w.rest (settled.stuck c) rests.at) ∙ append-nil (written_all P version (done_of log c))

    pub wholes : (log : List (Entry P)) → Follows words Bars opening version log → (c : ℕ) → AreWhole P (done_of log c)
    wholes log f c = (writes log f c).whole
