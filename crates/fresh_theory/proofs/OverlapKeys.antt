-- Each command whose reply has not come is under way, and a client has one on a key at a time.
use Rattle.std.proofs.Common.{◌≡◌, ℕ, ◌+◌, ◌<◌, ◌≤◌, Bool, true, false, cond, List, [], ◌∷◌, ◌++◌, Option, Some, None, refl, sym, ap, ◌∙◌, subst, arith, nat_eq, slice_get, zero, suc}
use Rattle.std.proofs.lemmas.Bool.{eqb-true, eq-eqb}
use Rattle.mc_types.specs.declared.ask.Ask.{Ask}
use Rattle.mc_types.specs.declared.answer.Answer.{Answer}
use Rattle.mc_types.specs.Items.{Item}
use Rattle.fresh_runs.specs.Calls.{Words}
use Rattle.fresh_runs.specs.Run.{Begins, Calls, Replies, Breaks, Turns, Restarts, commands_in}
use Rattle.fresh_runs.proofs.Runs.{way_below}
use Rattle.fresh_runs.proofs.OverlapSteps.{owner_way}
use Rattle.fresh_runs.specs.Protocol.{Protocol}
use Rattle.fresh_runs.specs.Log.{Part}
use Rattle.fresh_runs.specs.Overlap.{Slot, Owner, Entry, Feeds, Starts, Sends, Happens, Ends, Shows, Passes, Gives, Drops, Frees, Resets, part_slot, answered_in, behind_head, run_of, queue_of, is_dropped, owner_of, Follows}

some_slot : {P : Protocol} (a b : Slot P) → ◌≡◌ {A = Option (Slot P)} (Some a) (Some b) → a ≡ b
some_slot a b e = cc

no_slot : {P : Protocol} (a : Slot P) → ◌≡◌ {A = Option (Slot P)} None (Some a) → ⊥
no_slot a e = cc

some_owner : (a b : Owner) → ◌≡◌ {A = Option Owner} (Some a) (Some b) → a ≡ b
some_owner a b e = cc

none_owner : {A : Type 0} (a : Owner) → ◌≡◌ {A = Option Owner} None (Some a) → A
none_owner a e = absurd cc

none_reply : {A : Type 0} (a : Answer) → ◌≡◌ {A = Option Answer} (Some a) None → A
none_reply a e = absurd cc

differ : {A : Type 0} (b : Bool) → b ≡ true → b ≡ false → A
differ true e f = absurd cc
differ false e f = absurd cc

-- another command stays under way
kept : (k n : ℕ) (before : Option Owner) (theirs : Owner) → before ≡ Some theirs → (k ≡ n → ⊥) → cond (nat_eq k n) None before ≡ Some theirs
kept k n before theirs their other =
    (elim (nat_eq k n) as (λ b. nat_eq k n ≡ b → cond b None before ≡ Some theirs) [
      | true ↦ λ same. absurd (other (eqb-true k n same))
      | false ↦ λ _. their
    ]) refl

module _ {P : Protocol} where
  -- the command has its key
  abbrev Holds : List (Entry P) → ℕ → Slot P → Type 0
  Holds log c slot = owner_of log slot.number ≡ Some (record { client = c; ask = slot.ask })

  -- each command of a queue has its key until it has its reply
  abbrev AllHold : List (Entry P) → ℕ → List (Slot P) → Type 0
  AllHold log c [] = Unit {0}
  AllHold log c (slot ∷ slots) = (slot.reply ≡ None → Holds log c slot) × AllHold log c slots

  -- numbers rise within a queue, and are below this one
  abbrev AllAbove : ℕ → List (Slot P) → Type 0
  AllAbove n [] = Unit {0}
  AllAbove n (slot ∷ slots) = (n < slot.number) × AllAbove n slots

  abbrev Rises : ℕ → List (Slot P) → Type 0
  Rises below [] = Unit {0}
  Rises below (slot ∷ slots) = (slot.number < below) × AllAbove slot.number slots × Rises below slots

  above_more : (n : ℕ) (slots : List (Slot P)) (slot : Slot P) → AllAbove n slots → n < slot.number → AllAbove n (slots ++ slot ∷ [])
  above_more n [] slot h lt = (lt, tt)
  above_more n (x ∷ xs) slot h lt = (h.0, above_more n xs slot h.1 lt)

  rises_up : (a b : ℕ) (slots : List (Slot P)) → a ≤ b → Rises a slots → Rises b slots
  rises_up a b [] le h = tt
  rises_up a b (x ∷ xs) le h = ((let lt = h.0 in omega (arith, lt, le)), h.1, rises_up a b xs le h.2)

  rises_more : (slots : List (Slot P)) (slot : Slot P) → Rises slot.number slots → Rises (slot.number + 1) (slots ++ slot ∷ [])
  rises_more [] slot h = ((let k : slot.number < slot.number + 1 = omega arith in k), tt, tt)
  rises_more (x ∷ xs) slot h = ((let lt = h.0 in let k : x.number < slot.number + 1 = omega (arith, lt) in k), above_more x.number xs slot h.1 h.0, rises_more xs slot h.2)

  above_answered : (n number : ℕ) (reply : Answer) (slots : List (Slot P)) → AllAbove n slots → AllAbove n (answered_in number reply slots)
  above_answered n number reply [] h = tt
  above_answered n number reply (x ∷ xs) h =
      elim (nat_eq x.number number) as (λ b. AllAbove n (cond b (record { number = x.number; message = x.message; index = x.index; ask = x.ask; reply = Some reply } ∷ xs) (x ∷ answered_in number reply xs))) [
        | true ↦ h
        | false ↦ (h.0, above_answered n number reply xs h.1)
      ]

  rises_answered : (below number : ℕ) (reply : Answer) (slots : List (Slot P)) → Rises below slots → Rises below (answered_in number reply slots)
  rises_answered below number reply [] h = tt
  rises_answered below number reply (x ∷ xs) h =
      elim (nat_eq x.number number) as (λ b. Rises below (cond b (record { number = x.number; message = x.message; index = x.index; ask = x.ask; reply = Some reply } ∷ xs) (x ∷ answered_in number reply xs))) [
        | true ↦ h
        | false ↦ (h.0, above_answered x.number number reply xs h.1, rises_answered below number reply xs h.2)
      ]

  -- the same keys are held after an entry that leaves them, for commands that keep theirs
  hold_on : (log log' : List (Entry P)) (c : ℕ) (slots : List (Slot P)) → ((slot : Slot P) → Holds log c slot → Holds log' c slot) → AllHold log c slots → AllHold log' c slots
  hold_on log log' c [] same h = tt
  hold_on log log' c (x ∷ xs) same h = ((λ none. same x (h.0 none)), hold_on log log' c xs same h.1)

  hold_more : (log : List (Entry P)) (c : ℕ) (slots : List (Slot P)) (slot : Slot P) → AllHold log c slots → Holds log c slot → AllHold log c (slots ++ slot ∷ [])
  hold_more log c [] slot h one = ((λ _. one), tt)
  hold_more log c (x ∷ xs) slot h one = (h.0, hold_more log c xs slot h.1 one)

  -- an answered command needs no key, and those after it in the queue have greater numbers
  hold_above : (log : List (Entry P)) (c client number : ℕ) (part : Part P) (reply : Answer) (from : Option ℕ) (slots : List (Slot P)) → owner_of log number ≡ Some (record { client = client; ask = part.ask }) → AllAbove number slots → AllHold log c slots → AllHold (Ends client number part reply from ∷ log) c slots
  hold_above log c client number part reply from [] own above h = tt
  hold_above log c client number part reply from (x ∷ xs) own above h = (
    λ none. kept number x.number (owner_of log x.number) (record { client = c; ask = x.ask }) (h.0 none) (λ same. (let lt = above.0 in omega (arith, same, lt))),
    hold_above log c client number part reply from xs own above.1 h.1,
  )

  hold_answered : (log : List (Entry P)) (below client number : ℕ) (part : Part P) (reply : Answer) (from : Option ℕ) (slots : List (Slot P)) → owner_of log number ≡ Some (record { client = client; ask = part.ask }) → Rises below slots → AllHold log client slots → AllHold (Ends client number part reply from ∷ log) client (answered_in number reply slots)
  hold_answered log below client number part reply from [] own rises h = tt
  hold_answered log below client number part reply from (x ∷ xs) own rises h =
      let log' = Ends client number part reply from ∷ log in
      (elim (nat_eq x.number number) as (λ b. nat_eq x.number number ≡ b → AllHold log' client (cond b (record { number = x.number; message = x.message; index = x.index; ask = x.ask; reply = Some reply } ∷ xs) (x ∷ answered_in number reply xs))) [
        | true ↦ λ same. ((λ none. none_reply reply none), hold_above log client client number part reply from xs own (subst (λ n. AllAbove n xs) (eqb-true x.number number same) rises.1) h.1)
        | false ↦ λ differs. (
          (λ none. kept number x.number (owner_of log x.number) (record { client = client; ask = x.ask }) (h.0 none) (λ same. differ (nat_eq x.number number) (eq-eqb x.number number (sym same)) differs)),
          hold_answered log below client number part reply from xs own rises.2 h.1,
        )
      ]) refl

  -- another client's command ended
  hold_other : (log : List (Entry P)) (c client number : ℕ) (part : Part P) (reply : Answer) (from : Option ℕ) (slots : List (Slot P)) → nat_eq client c ≡ false → owner_of log number ≡ Some (record { client = client; ask = part.ask }) → AllHold log c slots → AllHold (Ends client number part reply from ∷ log) c slots
  hold_other log c client number part reply from [] differs own h = tt
  hold_other log c client number part reply from (x ∷ xs) differs own h = (
    λ none. kept number x.number (owner_of log x.number) (record { client = c; ask = x.ask }) (h.0 none) (λ same. differ (nat_eq client c) (eq-eqb client c (ap (λ (y : Owner). y.client) (some_owner (record { client = client; ask = part.ask }) (record { client = c; ask = x.ask }) (sym own ∙ ap (owner_of log) same ∙ h.0 none)))) differs),
    hold_other log c client number part reply from xs differs own h.1,
  )

  module _ (words : Words) (Bars : ℕ → Ask → ℕ → Ask → Type 0) (opening : ℕ → List ℕ → Option Item) (version : List ℕ) where
    pub rises : (log : List (Entry P)) → Follows words Bars opening version log → (c : ℕ) → Rises (commands_in (run_of log) + 1) (queue_of log c)
    rises [] f c = tt
    rises (Feeds d b ∷ log) f c = rises log f.1 c
    rises (Starts client number part ∷ log) f c =
        let n = commands_in (run_of log) in
        let queue = queue_of log c in
        let up = rises_up (n + 1) (n + 1 + 1) queue (omega arith) (rises log f.1 c) in
        elim (nat_eq client c) as (λ b. Rises (n + 1 + 1) (cond b (queue ++ part_slot number part ∷ []) queue)) [
          | true ↦ subst (λ m. Rises (m + 1) (queue ++ part_slot number part ∷ [])) f.0.3 (rises_more queue (part_slot number part) (subst (λ m. Rises m queue) (sym f.0.3) (rises log f.1 c)))
          | false ↦ up
        ]
    rises (Sends n s a o ∷ log) f c = rises log f.1 c
    rises (Happens (Calls n s a o e) ∷ log) f c = rises log f.1 c
    rises (Happens (Turns s k turned) ∷ log) f c = rises log f.1 c
    rises (Happens (Restarts s) ∷ log) f c = rises log f.1 c
    rises (Happens (Begins n a) ∷ log) f c = absurd f.0
    rises (Happens (Replies n k r m) ∷ log) f c = absurd f.0
    rises (Happens (Breaks n) ∷ log) f c = absurd f.0
    rises (Ends client number part reply from ∷ log) f c =
        let queue = queue_of log c in
        let n = commands_in (run_of log) in
        elim (nat_eq client c) as (λ b. Rises (n + 1) (cond b (answered_in number reply queue) queue)) [
          | true ↦ rises_answered (n + 1) number reply queue (rises log f.1 c)
          | false ↦ rises log f.1 c
        ]
    rises (Shows client slot reply ∷ log) f c =
        let queue = queue_of log c in
        let n = commands_in (run_of log) in
        elim (nat_eq client c) as (λ b. Rises (n + 1) (cond b (behind_head queue) queue)) [
          | true ↦ behind (n + 1) queue (rises log f.1 c)
          | false ↦ rises log f.1 c
        ]
      where
        behind : (n : ℕ) (queue : List (Slot P)) → Rises n queue → Rises n (behind_head queue)
        behind n [] h = tt
        behind n (x ∷ xs) h = h.2
    rises (Passes d m next ∷ log) f c = rises log f.1 c
    rises (Gives d b ∷ log) f c = rises log f.1 c
    rises (Drops d ∷ log) f c = rises log f.1 c
    rises (Frees n ∷ log) f c = rises log f.1 c
    rises (Resets client ∷ log) f c =
        let n = commands_in (run_of log) in
        elim (nat_eq client c) as (λ b. Rises (n + 1) (cond b [] (queue_of log c))) [
          | true ↦ tt
          | false ↦ rises log f.1 c
        ]

    behind_hold : (log : List (Entry P)) (c : ℕ) (queue : List (Slot P)) → AllHold log c queue → AllHold log c (behind_head queue)
    behind_hold log c [] h = tt
    behind_hold log c (x ∷ xs) h = h.1

    -- of a client that isn't dropped
    pub keys_held : (log : List (Entry P)) → Follows words Bars opening version log → (c : ℕ) → is_dropped log c ≡ false → AllHold log c (queue_of log c)
    keys_held [] f c served = tt
    keys_held (Feeds d b ∷ log) f c served = hold_on log (Feeds d b ∷ log) c (queue_of log c) (λ slot e. e) (keys_held log f.1 c served)
    keys_held (Starts client number part ∷ log) f c served =
        let log' = Starts client number part ∷ log in
        let queue = queue_of log c in
        let me : Owner = record { client = client; ask = part.ask } in
        let on : AllHold log' c queue = hold_on log log' c queue
        (λ slot e. (elim (nat_eq number slot.number) as (λ b. nat_eq number slot.number ≡ b → cond b (Some me) (owner_of log slot.number) ≡ Some (record { client = c; ask = slot.ask })) [
          | true ↦ λ same. (let lt = way_below number (run_of log) slot.number slot.ask f.0.0.0 (owner_way words Bars opening version log f.1 slot.number (record { client = c; ask = slot.ask }) e) in let is = eqb-true number slot.number same in absurd (omega (arith, lt, is)))
          | false ↦ λ _. e
        ]) refl)
        (keys_held log f.1 c served) in
        (elim (nat_eq client c) as (λ b. nat_eq client c ≡ b → AllHold log' c (cond b (queue ++ part_slot number part ∷ []) queue)) [
          | true ↦ λ same. hold_more log' c queue (part_slot number part) on
              (ap (λ b. cond b (Some me) (owner_of log number)) (eq-eqb number number refl) ∙ ap (λ d. Some (record { client = d; ask = part.ask })) (eqb-true client c same))
          | false ↦ λ _. on
        ]) refl
    keys_held (Sends n s a o ∷ log) f c served = hold_on log (Sends n s a o ∷ log) c (queue_of log c) (λ slot e. e) (keys_held log f.1 c served)
    keys_held (Happens event ∷ log) f c served = hold_on log (Happens event ∷ log) c (queue_of log c) (λ slot e. e) (keys_held log f.1 c served)
    keys_held (Ends client number part reply from ∷ log) f c served =
        let log' = Ends client number part reply from ∷ log in
        let queue = queue_of log c in
        (elim (nat_eq client c) as (λ b. nat_eq client c ≡ b → AllHold log' c (cond b (answered_in number reply queue) queue)) [
          | true ↦ λ same. subst (λ d. AllHold log' d (answered_in number reply queue)) (eqb-true client c same) (hold_answered log (commands_in (run_of log) + 1) client number part reply from queue f.0.1 (rises log f.1 c) (subst (λ d. AllHold log d queue) (sym (eqb-true client c same)) (keys_held log f.1 c served)))
          | false ↦ λ differs. hold_other log c client number part reply from queue differs f.0.1 (keys_held log f.1 c served)
        ]) refl
    keys_held (Shows client slot reply ∷ log) f c served =
        let log' = Shows client slot reply ∷ log in
        let queue = queue_of log c in
        let on : AllHold log' c queue = hold_on log log' c queue (λ slot e. e) (keys_held log f.1 c served) in
        elim (nat_eq client c) as (λ b. AllHold log' c (cond b (behind_head queue) queue)) [
          | true ↦ behind_hold log' c queue on
          | false ↦ on
        ]
    keys_held (Passes d m next ∷ log) f c served = hold_on log (Passes d m next ∷ log) c (queue_of log c) (λ slot e. e) (keys_held log f.1 c served)
    keys_held (Gives d b ∷ log) f c served = hold_on log (Gives d b ∷ log) c (queue_of log c) (λ slot e. e) (keys_held log f.1 c served)
    keys_held (Drops d ∷ log) f c served = hold_on log (Drops d ∷ log) c (queue_of log c) (λ slot e. e) (keys_held log f.1 c (not_dropped (nat_eq d c) (is_dropped log c) served))
      where
        not_dropped : (b x : Bool) → cond b true x ≡ false → x ≡ false
        not_dropped true x e = absurd cc
        not_dropped false x e = e
    keys_held (Frees number ∷ log) f c served =
        hold_on log (Frees number ∷ log) c (queue_of log c)
        (λ slot e. kept number slot.number (owner_of log slot.number) (record { client = c; ask = slot.ask }) e (λ same. differ (is_dropped log c) (ap (is_dropped log) (sym (ap (λ (y : Owner). y.client) (some_owner f.0.1.0 (record { client = c; ask = slot.ask }) (sym f.0.1.1 ∙ ap (owner_of log) same ∙ e)))) ∙ f.0.1.2) served))
        (keys_held log f.1 c served)
    keys_held (Resets client ∷ log) f c served =
        let log' = Resets client ∷ log in
        let queue = queue_of log c in
        (elim (nat_eq client c) as (λ b. cond b false (is_dropped log c) ≡ false → AllHold log' c (cond b [] queue)) [
          | true ↦ λ _. tt
          | false ↦ λ served. hold_on log log' c queue (λ slot e. e) (keys_held log f.1 c served)
        ]) served

    hold_at : (log : List (Entry P)) (c : ℕ) (queue : List (Slot P)) (i : ℕ) (slot : Slot P) → AllHold log c queue → slice_get queue i ≡ Some slot → slot.reply ≡ None → Holds log c slot
    hold_at log c [] i slot h at none = absurd (no_slot slot at)
    hold_at log c (x ∷ xs) zero slot h at none = subst (λ s. s.reply ≡ None → Holds log c s) (some_slot x slot at) h.0 none
    hold_at log c (x ∷ xs) (suc i) slot h at none = hold_at log c xs i slot h.1 at none

    pub slot_holds : (log : List (Entry P)) → Follows words Bars opening version log → (c : ℕ) → is_dropped log c ≡ false → (i : ℕ) (slot : Slot P) → slice_get (queue_of log c) i ≡ Some slot → slot.reply ≡ None → owner_of log slot.number ≡ Some (record { client = c; ask = slot.ask })
    slot_holds log f c served i slot at none = hold_at log c (queue_of log c) i slot (keys_held log f c served) at none

    -- a client has one command on a key under way at a time
    pub one_own : (log : List (Entry P)) → Follows words Bars opening version log → (a b : ℕ) (x y : Owner) → owner_of log a ≡ Some x → owner_of log b ≡ Some y → x.client ≡ y.client → x.ask.key ≡ y.ask.key → a ≡ b
    one_own [] f a b x y ea eb whose same = none_owner x ea
    one_own (Feeds c bs ∷ log) f a b x y ea eb whose same = one_own log f.1 a b x y ea eb whose same
    one_own (Starts c m part ∷ log) f a b x y ea eb whose same =
        let me : Owner = record { client = c; ask = part.ask } in
        (elim (nat_eq m a) as (λ p. nat_eq m a ≡ p → cond p (Some me) (owner_of log a) ≡ Some x → a ≡ b) [
          | true ↦ λ is e.
              (elim (nat_eq m b) as (λ p. nat_eq m b ≡ p → cond p (Some me) (owner_of log b) ≡ Some y → a ≡ b) [
                | true ↦ λ too _. sym (eqb-true m a is) ∙ eqb-true m b too
                | false ↦ λ _ g. absurd (f.0.2 b y g (sym whose ∙ ap (λ (o : Owner). o.client) (sym (some_owner me x e))) (sym same ∙ ap (λ (o : Owner). o.ask.key) (sym (some_owner me x e))))
              ]) refl eb
          | false ↦ λ _ e.
              (elim (nat_eq m b) as (λ p. cond p (Some me) (owner_of log b) ≡ Some y → a ≡ b) [
                | true ↦ λ g. absurd (f.0.2 a x e (whose ∙ ap (λ (o : Owner). o.client) (sym (some_owner me y g))) (same ∙ ap (λ (o : Owner). o.ask.key) (sym (some_owner me y g))))
                | false ↦ λ g. one_own log f.1 a b x y e g whose same
              ]) eb
        ]) refl ea
    one_own (Sends n s k o ∷ log) f a b x y ea eb whose same = one_own log f.1 a b x y ea eb whose same
    one_own (Happens event ∷ log) f a b x y ea eb whose same = one_own log f.1 a b x y ea eb whose same
    one_own (Ends c m part r z ∷ log) f a b x y ea eb whose same =
        (elim (nat_eq m a) as (λ p. cond p None (owner_of log a) ≡ Some x → a ≡ b) [
          | true ↦ λ e. none_owner x e
          | false ↦ λ e. (elim (nat_eq m b) as (λ p. cond p None (owner_of log b) ≡ Some y → a ≡ b) [ true ↦ λ g. none_owner y g | false ↦ λ g. one_own log f.1 a b x y e g whose same ]) eb
        ]) ea
    one_own (Shows c slot r ∷ log) f a b x y ea eb whose same = one_own log f.1 a b x y ea eb whose same
    one_own (Passes c m next ∷ log) f a b x y ea eb whose same = one_own log f.1 a b x y ea eb whose same
    one_own (Gives c bs ∷ log) f a b x y ea eb whose same = one_own log f.1 a b x y ea eb whose same
    one_own (Drops c ∷ log) f a b x y ea eb whose same = one_own log f.1 a b x y ea eb whose same
    one_own (Frees m ∷ log) f a b x y ea eb whose same =
        (elim (nat_eq m a) as (λ p. cond p None (owner_of log a) ≡ Some x → a ≡ b) [
          | true ↦ λ e. none_owner x e
          | false ↦ λ e. (elim (nat_eq m b) as (λ p. cond p None (owner_of log b) ≡ Some y → a ≡ b) [ true ↦ λ g. none_owner y g | false ↦ λ g. one_own log f.1 a b x y e g whose same ]) eb
        ]) ea
    one_own (Resets c ∷ log) f a b x y ea eb whose same = one_own log f.1 a b x y ea eb whose same
