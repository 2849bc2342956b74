-- A command whose reply came is one that ends; a client for whom nothing is done any more is one that is dropped; a command of it that was taken out is one that is freed.
use Rattle.std.proofs.Common.{◌≡◌, ℕ, ◌+◌, ◌<◌, Bool, true, false, cond, List, [], ◌∷◌, Option, Some, None, option_map, refl, sym, ap, ◌∙◌, subst, nat_eq}
use Rattle.std.proofs.lemmas.Bool.{eqb-true}
use Rattle.mc_types.specs.declared.answer.Answer.{Answer}
use Rattle.fresh_runs.specs.Calls.{Call}
use Rattle.fresh_runs.specs.Log.{Part}
use Rattle.fresh_runs.specs.Overlap as log
use Rattle.fresh_runs.specs.Overlap.{Front, Slot, is_last, is_last_slot, after_end, part_slot, slot_in, answered_in, ticket_in}
use Rattle.fresh_runs.proofs.OverlapSteps.{walks_lead}
use Rattle.wire_parts.specs.Stream.{Place}
use Rattle.wire_stream.proofs.ReaderLaws.{reader_is}
use Rattle.route_tree.specs.At.{tree_at}
use Rattle.route_tree.specs.Word.{tree_words}
use Rattle.core_client.specs.declared.client.Pending.{Pending}
use Rattle.core_client.specs.declared.client.Client.{Client}
use Rattle.core_commands.specs.declared.command.Command.{Command}
use Rattle.core_proxy.specs.declared.proxy.Core.{Core}
use Rattle.core_client.specs.ClientState.{dialect, front_by, output_by, dropped_by}
use Rattle.core_proxy.specs.CoreState.{bars_of, client_at, command_at, Beside, owner_by, MayComeOf, state_of, is_call, has_call_out, ArePendingSlots, IsAtFront, IsWaitedFor, IsQueue, IsHeld, IsOnItsWay, ticket_by, FitsBeside, GoesByEntries, GoesByOne, version_by}
use Rattle.core_proxy.specs.Steps.{Turns}
use Rattle.core_client.specs.Replying.{pending_in, replied_in, GoesOnAfter}
use Rattle.core_proxy.specs.Ending.{Ends, Drops, Frees}
use Rattle.core_proxy.proofs.Clients.{on_its_way_kept, changed, stays, command_stays, still_fits, owners, by_client}
use Rattle.core_commands.proofs.Commands.{no_command}
use Rattle.core_proxy.proofs.Commands.{by_number}
use Rattle.core_proxy.proofs.Slots.{some_slot, no_slot, no_reply, answered_other, held_then}
use Rattle.core_proxy.proofs.Tickets.{contrary}

abbrev answered : Slot dialect → Answer → Slot dialect
answered s reply = record { number = s.number; message = s.message; index = s.index; ask = s.ask; reply = Some reply }

no_pending : {A : Type 0} {x : Pending} → ◌≡◌ {A = Option Pending} None (Some x) → A
no_pending e = absurd cc

some_pending : {x y : Pending} → ◌≡◌ {A = Option Pending} (Some x) (Some y) → x ≡ y
some_pending e = cc

-- the pending command of a number is that of the log's queue
same_last : (ps : List Pending) (slots : List (Slot dialect)) (n : ℕ) (p : Pending) (slot : Slot dialect) → ArePendingSlots ps slots → pending_in n ps ≡ Some p → slot_in slots n ≡ Some slot → is_last_slot slot ≡ p.last
same_last [] slots n p slot h there is = no_pending there
same_last (q ∷ ps) [] n p slot h there is = absurd h
same_last (q ∷ ps) (s ∷ slots) n p slot h there is =
    (elim (nat_eq q.number n) as (λ b. cond b (Some q) (pending_in n ps) ≡ Some p → cond b (Some s) (slot_in slots n) ≡ Some slot → is_last_slot slot ≡ p.last) [
      | true ↦ λ e f. sym (ap is_last_slot (some_slot f)) ∙ h.0.last ∙ ap (λ (x : Pending). x.last) (some_pending e)
      | false ↦ λ e f. same_last ps slots n p slot h.1 e f
    ]) there (ap (λ m. cond (nat_eq m n) (Some s) (slot_in slots n)) (sym h.0.number) ∙ is)

slots_answered : (ps : List Pending) (slots : List (Slot dialect)) (n : ℕ) (reply : Answer) → ArePendingSlots ps slots → ArePendingSlots (replied_in n reply ps) (answered_in n reply slots)
slots_answered [] [] n reply h = tt
slots_answered [] (slot ∷ slots) n reply h = absurd h
slots_answered (p ∷ ps) [] n reply h = absurd h
slots_answered (p ∷ ps) (slot ∷ slots) n reply h =
    subst (λ m. ArePendingSlots (cond (nat_eq p.number n) (record p { reply = Some reply } ∷ ps) (p ∷ replied_in n reply ps)) (cond (nat_eq m n) (answered slot reply ∷ slots) (slot ∷ answered_in n reply slots))) (sym h.0.number)
    (elim (nat_eq p.number n) as (λ b. ArePendingSlots (cond b (record p { reply = Some reply } ∷ ps) (p ∷ replied_in n reply ps)) (cond b (answered slot reply ∷ slots) (slot ∷ answered_in n reply slots))) [
      | true ↦ (record { number = h.0.number; ask = h.0.ask; reply = refl; quiet = h.0.quiet; last = h.0.last; asks = h.0.asks }, h.1)
      | false ↦ (h.0, slots_answered ps slots n reply h.1)
    ])

no_more : {A : Type 0} (x : Slot dialect) (l : List (Slot dialect)) → ◌≡◌ {A = List (Slot dialect)} (x ∷ l) [] → A
no_more x l e = absurd cc

-- a key that isn't the last of its message is waited for, and its message is at the front
pub waited_for : (x : Client) (slots : List (Slot dialect)) (n : ℕ) (slot : Slot dialect) → slot_in slots n ≡ Some slot → slot.reply ≡ None → is_last_slot slot ≡ false → IsWaitedFor x.waits slots → IsAtFront x slots
    → (slot.index ≡ x.index) × ((next : Place) × dialect.Reads x.stream slot.message next)
waited_for x [] n slot is none more w h = no_slot is
waited_for x (s ∷ []) n slot is none more w h =
    (elim (nat_eq s.number n) as (λ b. cond b (Some s) None ≡ Some slot → (slot.index ≡ x.index) × ((next : Place) × dialect.Reads x.stream slot.message next)) [
      | true ↦ λ e.
          let same : s ≡ slot = some_slot e in
          let f = h (w.0 (ap (λ (t : Slot dialect). t.reply) same ∙ none) (ap is_last_slot same ∙ more)).1 in
          subst (λ (t : Slot dialect). (t.index ≡ x.index) × ((next : Place) × dialect.Reads x.stream t.message next)) same (f.2, f.3)
      | false ↦ λ e. no_slot e
    ]) is
waited_for x (s ∷ t ∷ slots) n slot is none more w h =
    (elim (nat_eq s.number n) as (λ b. cond b (Some s) (slot_in (t ∷ slots) n) ≡ Some slot → (slot.index ≡ x.index) × ((next : Place) × dialect.Reads x.stream slot.message next)) [
      | true ↦ λ e. let same : s ≡ slot = some_slot e in no_more t slots (w.0 (ap (λ (u : Slot dialect). u.reply) same ∙ none) (ap is_last_slot same ∙ more)).0
      | false ↦ λ e. waited_for x (t ∷ slots) n slot e none more w.1 h
    ]) is

-- where that one has its reply, none is waited for
none_waited : (waits now : Bool) (slots : List (Slot dialect)) (n : ℕ) (slot : Slot dialect) (reply : Answer) → slot_in slots n ≡ Some slot → slot.reply ≡ None → is_last_slot slot ≡ false → IsWaitedFor waits slots → IsWaitedFor now (answered_in n reply slots)
none_waited waits now [] n slot reply is none more w = no_slot is
none_waited waits now (s ∷ slots) n slot reply is none more w =
    (elim (nat_eq s.number n) as (λ b. cond b (Some s) (slot_in slots n) ≡ Some slot → IsWaitedFor now (cond b (answered s reply ∷ slots) (s ∷ answered_in n reply slots))) [
      | true ↦ λ e.
          let same : s ≡ slot = some_slot e in
          let empty = (w.0 (ap (λ (u : Slot dialect). u.reply) same ∙ none) (ap is_last_slot same ∙ more)).0 in
          ((λ e. no_reply reply e), subst (IsWaitedFor now) (sym empty) tt)
      | false ↦ λ e. ((λ none last. no_slot (ap (λ l. slot_in l n) (sym (w.0 none last).0) ∙ e)), none_waited waits now slots n slot reply e none more w.1)
    ]) is

-- where another command has its reply, what is waited for stays
still_waited : (waits : Bool) (slots : List (Slot dialect)) (n : ℕ) (reply : Answer) → IsWaitedFor waits slots → IsWaitedFor waits (answered_in n reply slots)
still_waited waits [] n reply w = tt
still_waited waits (s ∷ slots) n reply w =
    elim (nat_eq s.number n) as (λ b. IsWaitedFor waits (cond b (answered s reply ∷ slots) (s ∷ answered_in n reply slots))) [
      | true ↦ ((λ e. no_reply reply e), w.1)
      | false ↦ ((λ none more. (ap (answered_in n reply) (w.0 none more).0, (w.0 none more).1)), still_waited waits slots n reply w.1)
    ]

-- who waits for nothing
idle_front : (y : Client) (slots : List (Slot dialect)) → y.waits ≡ false → IsAtFront y slots
idle_front y [] idle = idle
idle_front y (s ∷ []) idle = λ w. contrary y.waits w idle
idle_front y (s ∷ t ∷ slots) idle = idle_front y (t ∷ slots) idle

module _ (x y : Client) (front : front_by (Some y) ≡ front_by (Some x)) where
  at_front : (s : Slot dialect) → IsAtFront x (s ∷ []) → IsAtFront y (s ∷ [])
  at_front s h = λ w.
      let a = h (ap (λ (f : Front dialect). f.waits) (sym front) ∙ w) in
      (a.0, a.1, a.2 ∙ ap (λ (f : Front dialect). f.index) (sym front), (a.3.0, subst (λ p. dialect.Reads p s.message a.3.0) (ap (λ (f : Front dialect). f.place) (sym front)) a.3.1))

  pub front_same : (slots : List (Slot dialect)) → IsAtFront x slots → IsAtFront y slots
  front_same [] h = ap (λ (f : Front dialect). f.waits) front ∙ h
  front_same (s ∷ []) h = at_front s h
  front_same (s ∷ t ∷ slots) h = front_same (t ∷ slots) h

  front_behind : (s : Slot dialect) (slots : List (Slot dialect)) (z : Slot dialect) → is_last_slot s ≡ true → IsAtFront x (s ∷ slots) → IsAtFront y (z ∷ slots)
  front_behind s [] z last h = λ w. contrary (is_last_slot s) last (h (ap (λ (f : Front dialect). f.waits) (sym front) ∙ w)).1
  front_behind s (t ∷ slots) z last h = front_same (t ∷ slots) h

  -- a command of a last key isn't the one that is waited for
  front_answered : (n : ℕ) (reply : Answer) (slots : List (Slot dialect)) (slot : Slot dialect) → slot_in slots n ≡ Some slot → is_last_slot slot ≡ true → IsAtFront x slots → IsAtFront y (answered_in n reply slots)
  front_answered n reply [] slot is last h = no_slot is
  front_answered n reply (s ∷ slots) slot is last h =
      (elim (nat_eq s.number n) as (λ b. cond b (Some s) (slot_in slots n) ≡ Some slot → IsAtFront y (cond b (answered s reply ∷ slots) (s ∷ answered_in n reply slots))) [
        | true ↦ λ here. front_behind s slots (answered s reply) (ap is_last_slot (some_slot here) ∙ last) h
        | false ↦ λ there. behind slots (front_answered n reply slots slot there last) h
      ]) is
    where
      behind : (l : List (Slot dialect)) → (IsAtFront x l → IsAtFront y (answered_in n reply l)) → IsAtFront x (s ∷ l) → IsAtFront y (s ∷ answered_in n reply l)
      behind [] f h = at_front s h
      behind (t ∷ l) f h = more (answered_in n reply (t ∷ l)) (f h) (is_some t l)
        where
          more : (m : List (Slot dialect)) → IsAtFront y m → ((u : Slot dialect) × (v : List (Slot dialect)) × (m ≡ u ∷ v)) → IsAtFront y (s ∷ m)
          more m f some = subst (λ m. IsAtFront y (s ∷ m)) (sym some.2) (subst (λ m. IsAtFront y m) some.2 f)

          is_some : (t : Slot dialect) (l : List (Slot dialect)) → (u : Slot dialect) × (v : List (Slot dialect)) × (answered_in n reply (t ∷ l) ≡ u ∷ v)
          is_some t l =
              elim (nat_eq t.number n) as (λ b. (u : Slot dialect) × (v : List (Slot dialect)) × (cond b (answered t reply ∷ l) (t ∷ answered_in n reply l) ≡ u ∷ v)) [
                | true ↦ (_, _, refl)
                | false ↦ (_, _, refl)
              ]

abbrev waits_in : Front dialect → Bool
waits_in f = f.waits

ended_idle : (b : Bool) (next here : Place) (index : ℕ) → waits_in (cond b (record { place = next; index = 0; waits = false }) (record { place = here; index = index; waits = false })) ≡ false
ended_idle true next here index = refl
ended_idle false next here index = refl

-- what is left to know of the client: the part that ends, and where it stands then
record Parted (x y : Client) (n : ℕ) (a : Command) (reply : Answer) (slots : List (Slot dialect)) : Type 0 where
  part : Part dialect
  ask : part.ask ≡ a.ask
  slot : slot_in slots n ≡ Some (part_slot n part)
  reads : is_last part ≡ false → dialect.Reads x.stream part.message part.next
  front : front_by (Some y) ≡ after_end (front_by (Some x)) part reply
  at_front : IsAtFront y (answered_in n reply slots)
  waited : IsWaitedFor y.waits (answered_in n reply slots)

number_in : (slots : List (Slot dialect)) (n : ℕ) (slot : Slot dialect) → slot_in slots n ≡ Some slot → slot.number ≡ n
number_in [] n slot is = no_slot is
number_in (s ∷ slots) n slot is =
    (elim (nat_eq s.number n) as (λ b. nat_eq s.number n ≡ b → cond b (Some s) (slot_in slots n) ≡ Some slot → slot.number ≡ n) [
      | true ↦ λ same e. ap (λ (t : Slot dialect). t.number) (sym (some_slot e)) ∙ eqb-true s.number n same
      | false ↦ λ _ e. number_in slots n slot e
    ]) refl is

-- no call of an idle command is out
pub idle_ticket : (n : ℕ) (a : Command) (s : ℕ) → a.is_out ≡ false → ticket_by (Some a) n s ≡ None
idle_ticket n a s idle = by a.is_out (is_call a.job.pending) _ idle
  where
    by : (b c : Bool) {A : Type 0} (o : Option A) → b ≡ false → cond (cond b c false) o None ≡ None
    by true c o e = contrary true refl e
    by false c o e = refl

-- no call is out of a command that has none out
pub none_ticket : (n : ℕ) (a : Command) (s : ℕ) → has_call_out a ≡ false → ticket_by (Some a) n s ≡ None
none_ticket n a s none = by (has_call_out a) _ none
  where
    by : (b : Bool) {A : Type 0} (o : Option A) → b ≡ false → cond b o None ≡ None
    by true o e = contrary true refl e
    by false o e = refl

-- of the others the same is kept
pub none_owned : (b : Bool) (c : Option Command) → option_map owner_by (cond b None c) ≡ cond b None (option_map owner_by c)
none_owned true c = refl
none_owned false c = refl

pub still_to_come : (b : Bool) (c : Option Command) (calls : List Call) (reply : Answer) (from : Option ℕ) → MayComeOf (cond b None c) calls reply from → MayComeOf c calls reply from
still_to_come true c calls reply from l = absurd l
still_to_come false c calls reply from l = l

module _ (old new : Core) (number : ℕ) (a : Command) (x y : Client) (pending : Pending) (reply : Answer) (from : Option ℕ) (r : Ends old new number a x y pending reply from) where
  abbrev mine : Beside → List (Slot dialect)
  mine beside = beside.queue a.client

  module _ (beside : Beside) (fits : FitsBeside old beside) where
    queue_is : ArePendingSlots x.queue.items (mine beside) × IsAtFront x (mine beside) × IsWaitedFor x.waits (mine beside)
    queue_is = subst (λ o. IsQueue o (mine beside)) r.client_was (fits.queues a.client)

    slot_is : (slot : Slot dialect) × (slot_in (mine beside) number ≡ Some slot) × (slot.ask ≡ a.ask) × (slot.reply ≡ None)
    slot_is = subst (λ o. IsHeld number a o (mine beside)) r.client_was (fits.held number a r.was) r.served

    parted : Parted x y number a reply (mine beside)
    parted = by pending.last refl r.front
      where
        slot : Slot dialect
        slot = slot_is.0

        last_is : is_last_slot slot ≡ pending.last
        last_is = same_last x.queue.items (mine beside) number pending slot queue_is.0 r.there slot_is.1

        there : (next : Place) → slot_in (mine beside) number ≡ Some (part_slot number (record { message = slot.message; next = next; index = slot.index; ask = slot.ask }))
        there next = slot_is.1 ∙ (λ i. Some (record { number = number_in (mine beside) number slot slot_is.1 i; message = slot.message; index = slot.index; ask = slot.ask; reply = slot_is.3 i }))

        by : (b : Bool) → pending.last ≡ b → GoesOnAfter b x reply y → Parted x y number a reply (mine beside)
        by true e g =
            let last : is_last_slot slot ≡ true = last_is ∙ e in
            record {
              part = record { message = slot.message; next = x.stream; index = slot.index; ask = slot.ask };
              ask = slot_is.2;
              slot = there x.stream;
              reads = λ more. contrary (is_last_slot slot) last more;
              front = g ∙ sym (ap (λ b. cond b (front_by (Some x)) (cond (dialect.ends slot.message slot.index reply) (record { place = x.stream; index = 0; waits = false }) (record { place = x.stream; index = slot.index + 1; waits = false }))) last);
              at_front = front_answered x y g number reply (mine beside) slot slot_is.1 last queue_is.1;
              waited = subst (λ w. IsWaitedFor w (answered_in number reply (mine beside))) (sym (ap (λ (f : Front dialect). f.waits) g)) (still_waited x.waits (mine beside) number reply queue_is.2);
            }
        by false e g =
            let more : is_last_slot slot ≡ false = last_is ∙ e in
            let w = waited_for x (mine beside) number slot slot_is.1 slot_is.3 more queue_is.2 queue_is.1 in
            let same = reader_is.one_message x.stream g.0 slot.message g.1 w.1.0 g.2 w.1.1 in
            let index : slot.index ≡ x.index = w.0 in
            let idle : y.waits ≡ false = ap (λ (f : Front dialect). f.waits) g.3 ∙ ended_idle (dialect.ends g.0 x.index reply) g.1 x.stream (x.index + 1) in
            record {
              part = record { message = slot.message; next = g.1; index = slot.index; ask = slot.ask };
              ask = slot_is.2;
              slot = there g.1;
              reads = λ _. subst (λ m. dialect.Reads x.stream m g.1) same.0 g.2;
              front = g.3
                  ∙ (λ i. cond (dialect.ends (same.0 i) (sym index i) reply) (record { place = g.1; index = 0; waits = false }) (record { place = x.stream; index = sym index i + 1; waits = false }))
                  ∙ sym (ap (λ b. cond b (front_by (Some x)) (cond (dialect.ends slot.message slot.index reply) (record { place = g.1; index = 0; waits = false }) (record { place = x.stream; index = slot.index + 1; waits = false }))) more);
              at_front = idle_front y (answered_in number reply (mine beside)) idle;
              waited = none_waited x.waits y.waits (mine beside) number slot reply slot_is.1 slot_is.3 more queue_is.2;
            }

    queues_then : (c : ℕ) → IsQueue (client_at new c) (cond (nat_eq a.client c) (answered_in number reply (beside.queue c)) (beside.queue c))
    queues_then c =
        (elim (nat_eq a.client c) as (λ b. nat_eq a.client c ≡ b → IsQueue (client_at new c) (cond b (answered_in number reply (beside.queue c)) (beside.queue c))) [
          | true ↦ λ same. subst (λ d. IsQueue (client_at new d) (answered_in number reply (beside.queue d))) (eqb-true a.client c same)
              (subst (λ o. IsQueue o (answered_in number reply (mine beside))) (sym r.client_is)
              (subst (λ l. ArePendingSlots l (answered_in number reply (mine beside))) (sym r.queue) (slots_answered x.queue.items (mine beside) number reply queue_is.0), parted.at_front, parted.waited))
          | false ↦ λ differs. subst (λ o. IsQueue o (beside.queue c)) (sym (r.others c differs)) (fits.queues c)
        ]) refl

    below : (n : ℕ) → old.number < n → nat_eq number n ≡ false
    below n lt =
        (elim (nat_eq number n) as (λ z. nat_eq number n ≡ z → z ≡ false) [
          | true ↦ λ same. no_command (sym (fits.numbers n lt) ∙ sym (ap (command_at old) (eqb-true number n same)) ∙ r.was)
          | false ↦ λ _. refl
        ]) refl

    numbered_then : (c n : ℕ) → new.number < n → slot_in (cond (nat_eq a.client c) (answered_in number reply (beside.queue c)) (beside.queue c)) n ≡ None
    numbered_then c n lt =
        let l = subst (λ m. m < n) r.number_is lt in
        elim (nat_eq a.client c) as (λ b. slot_in (cond b (answered_in number reply (beside.queue c)) (beside.queue c)) n ≡ None) [
          | true ↦ answered_other (beside.queue c) number n reply (below n l) ∙ fits.numbered c n l
          | false ↦ fits.numbered c n l
        ]

    abbrev more : ℕ → List (Slot dialect)
    more c = cond (nat_eq a.client c) (answered_in number reply (beside.queue c)) (beside.queue c)

    held_still : (n : ℕ) (command : Command) → command_at new n ≡ Some command → IsHeld n command (client_at new command.client) (more command.client)
    held_still =
        by_number old new number None r.commands (λ n command. IsHeld n command (client_at new command.client) (more command.client))
        (λ command e. no_command e)
        (λ n command differs e. held_then (client_at old) (client_at new) a.client (Some x) (Some y) r.client_was r.client_is r.others beside.queue more n command
        (λ same h served.
        let s = h (sym r.dropped ∙ served) in (
          s.0,
          ap (λ b. slot_in (cond b (answered_in number reply (beside.queue command.client)) (beside.queue command.client)) n) same ∙ answered_other (beside.queue command.client) number n reply differs ∙ s.1,
          s.2,
          s.3,
        ))
        (λ other. ap (λ b. cond b (answered_in number reply (beside.queue command.client)) (beside.queue command.client)) other)
        (fits.held n command e))

    none_out : (s : ℕ) → ticket_in (beside.out s) number ≡ None
    none_out s = fits.tickets s number ∙ ap (λ o. ticket_by o number s) r.was ∙ none_ticket number a s r.idle

    tickets_then : (s n : ℕ) → ticket_in (beside.out s) n ≡ ticket_by (command_at new n) n s
    tickets_then s n =
        (elim (nat_eq number n) as (λ z. nat_eq number n ≡ z → ticket_in (beside.out s) n ≡ ticket_by (cond z None (command_at old n)) n s) [
          | true ↦ λ same. subst (λ m. ticket_in (beside.out s) m ≡ None) (eqb-true number n same) (none_out s)
          | false ↦ λ _. fits.tickets s n
        ]) refl ∙ ap (λ o. ticket_by o n s) (sym (r.commands n))

  -- the command ends
  pub ends : GoesByEntries old (λ entries. (part : Part dialect) × (part.ask ≡ a.ask) × (entries ≡ log.Ends a.client number part reply from ∷ [])) new
  ends = λ beside fits.
      let p = parted beside fits in
      let part = p.part in
      let beside' : Beside = record beside { queue = more beside fits } in (
        beside',
        log.Ends a.client number part reply from ∷ [],
        record {
          queues = queues_then beside fits;
          held = held_still beside fits;
          numbered = numbered_then beside fits;
          to_come = by_number old new number None r.commands (λ n command. IsOnItsWay new.limits.sharing (beside.at n command.ask.key) command) (λ command e. no_command e) (λ n command _ e. on_its_way_kept old new (beside.at n command.ask.key) command r.limits (fits.to_come n command e));
          tickets = tickets_then beside fits;
          single = fits.single;
          numbers = λ n lt. let l = subst (λ m. m < n) r.number_is lt in r.commands n ∙ ap (λ z. cond z None (command_at old n)) (below beside fits n l) ∙ fits.numbers n l;
          unseen = λ n lt. fits.unseen n (subst (λ m. m < n) r.number_is lt);
          trees = λ n key lt. fits.trees n key (subst (λ m. m < n) r.number_is lt) ∙ ap (λ t. tree_at t key) (sym r.tree);
        },
        record { at = refl; holds = refl; found = refl; turn = refl },
        (part, p.ask, refl),
        walks_lead (tree_words beside.at) (bars_of old beside) (state_of old beside) (state_of new beside') (log.Ends a.client number part reply from ∷ []) (record {
          may = (
            (
              ap (option_map owner_by) r.was ∙ (λ i. Some (record { client = a.client; ask = sym p.ask i })),
              subst (λ o. MayComeOf o [] reply from) (sym r.was) r.done,
              p.slot,
              (λ middle. subst (λ o. dialect.Reads (front_by o).place part.message part.next) (sym r.client_was) (p.reads middle)),
              none_out beside fits,
              ap dropped_by r.client_was ∙ r.served,
            ),
            tt,
          );
          like = record {
            front = λ c. (elim (nat_eq a.client c) as (λ b. nat_eq a.client c ≡ b → front_by (client_at new c) ≡ cond b (after_end (front_by (client_at old c)) part reply) (front_by (client_at old c))) [
              | true ↦ λ same. subst (λ d. front_by (client_at new d) ≡ after_end (front_by (client_at old d)) part reply) (eqb-true a.client c same) (ap front_by r.client_is ∙ p.front ∙ ap (λ o. after_end (front_by o) part reply) (sym r.client_was))
              | false ↦ λ differs. ap front_by (r.others c differs)
            ]) refl;
            queue = λ c. refl;
            output = same_of output_by r.output;
            dropped = same_of dropped_by r.dropped;
            number = r.number_is;
            owner = λ n. ap (option_map owner_by) (r.commands n) ∙ none_owned (nat_eq number n) (command_at old n);
            to_come = λ n o e calls reply from l. still_to_come (nat_eq number n) (command_at old n) calls reply from (subst (λ m. MayComeOf m calls reply from) (r.commands n) l);
            out = λ s. refl;
            holds = λ s k. refl;
            found = λ n o e. refl;
            turn = refl;
            version = ap version_by r.limits;
          };
        }),
        r.limits,
        λ s. refl,
      )
    where
      same_of : {A : Type 0} (f : Option Client → A) → f (Some y) ≡ f (Some x) → (c : ℕ) → f (client_at new c) ≡ f (client_at old c)
      same_of f e c = by_client a.client c (λ d. f (client_at new d) ≡ f (client_at old d)) (ap f r.client_is ∙ e ∙ ap f (sym r.client_was)) (λ differs. ap f (r.others c differs))

-- ---- a client is dropped

module _ (old new : Core) (client : ℕ) (x y : Client) (t : Turns old new client (Some x) (Some y)) (d : Drops x y) where
  front_is : front_by (Some y) ≡ front_by (Some x)
  front_is = λ i. record { place = d.stream i; index = d.index i; waits = d.waits i }

  -- nothing is done any more for the client that is dropped
  pub drops : GoesByOne old (log.Drops client) new
  drops = λ beside fits. (
    beside,
    log.Drops client ∷ [],
    still_fits old new client (Some x) (Some y) t beside fits
        (λ slots q. (subst (λ l. ArePendingSlots l slots) (sym d.queue) q.0, front_same x y front_is slots q.1, subst (λ w. IsWaitedFor w slots) (sym d.waits) q.2))
        (λ n command slots h served. contrary y.dropped d.dropped served),
    record { at = refl; holds = refl; found = refl; turn = refl },
    refl,
    walks_lead (tree_words beside.at) (bars_of old beside) (state_of old beside) (state_of new beside) (log.Drops client ∷ []) (record {
      may = (tt, tt);
      like = record {
        front = stays old new client (Some x) (Some y) t front_by front_is;
        queue = λ c. refl;
        output = stays old new client (Some x) (Some y) t output_by d.output;
        dropped = changed old new client (Some x) (Some y) t dropped_by (λ b. true) d.dropped;
        number = t.number;
        owner = owners old new client (Some x) (Some y) t;
        to_come = λ n o e calls reply from l. subst (λ m. MayComeOf m calls reply from) (command_stays old new client (Some x) (Some y) t n) l;
        out = λ s. refl;
        holds = λ s k. refl;
        found = λ n o e. refl;
        turn = refl;
        version = ap version_by t.limits;
      };
    }),
    t.limits,
    λ s. refl,
  )

-- ---- a command of a dropped client is freed

module _ (old new : Core) (number : ℕ) (a : Command) (x : Client) (r : Frees old new number a x) where
  -- the command of the dropped client is broken off
  pub frees : GoesByOne old (log.Frees number) new
  frees = λ beside fits. (
    beside,
    log.Frees number ∷ [],
    record {
      queues = λ c. subst (λ o. IsQueue o (beside.queue c)) (sym (r.clients c)) (fits.queues c);
      held = by_number old new number None r.commands (λ n command. IsHeld n command (client_at new command.client) (beside.queue command.client)) (λ command e. no_command e)
          (λ n command _ e. subst (λ o. IsHeld n command o (beside.queue command.client)) (sym (r.clients command.client)) (fits.held n command e));
      numbered = λ c n lt. fits.numbered c n (subst (λ m. m < n) r.number_is lt);
      to_come = by_number old new number None r.commands (λ n command. IsOnItsWay new.limits.sharing (beside.at n command.ask.key) command) (λ command e. no_command e) (λ n command _ e. on_its_way_kept old new (beside.at n command.ask.key) command r.limits (fits.to_come n command e));
      tickets = λ s n. (elim (nat_eq number n) as (λ z. nat_eq number n ≡ z → ticket_in (beside.out s) n ≡ ticket_by (cond z None (command_at old n)) n s) [
        | true ↦ λ same. subst (λ m. ticket_in (beside.out s) m ≡ None) (eqb-true number n same) (none_out beside fits s)
        | false ↦ λ _. fits.tickets s n
      ]) refl ∙ ap (λ o. ticket_by o n s) (sym (r.commands n));
      single = fits.single;
      numbers = λ n lt. let l = subst (λ m. m < n) r.number_is lt in r.commands n ∙ none_either (nat_eq number n) (command_at old n) (fits.numbers n l);
      unseen = λ n lt. fits.unseen n (subst (λ m. m < n) r.number_is lt);
      trees = λ n key lt. fits.trees n key (subst (λ m. m < n) r.number_is lt) ∙ ap (λ t. tree_at t key) (sym r.tree);
    },
    record { at = refl; holds = refl; found = refl; turn = refl },
    refl,
    walks_lead (tree_words beside.at) (bars_of old beside) (state_of old beside) (state_of new beside) (log.Frees number ∷ []) (record {
      may = (((owner_by a, ap (option_map owner_by) r.was, ap dropped_by r.client_was ∙ r.dropped), none_out beside fits), tt);
      like = record {
        front = λ c. ap front_by (r.clients c);
        queue = λ c. refl;
        output = λ c. ap output_by (r.clients c);
        dropped = λ c. ap dropped_by (r.clients c);
        number = r.number_is;
        owner = λ n. ap (option_map owner_by) (r.commands n) ∙ none_owned (nat_eq number n) (command_at old n);
        to_come = λ n o e calls reply from l. still_to_come (nat_eq number n) (command_at old n) calls reply from (subst (λ m. MayComeOf m calls reply from) (r.commands n) l);
        out = λ s. refl;
        holds = λ s k. refl;
        found = λ n o e. refl;
        turn = refl;
        version = ap version_by r.limits;
      };
    }),
    r.limits,
    λ s. refl,
  )
    where
      none_out : (beside : Beside) → FitsBeside old beside → (s : ℕ) → ticket_in (beside.out s) number ≡ None
      none_out beside fits s = fits.tickets s number ∙ ap (λ o. ticket_by o number s) r.was ∙ idle_ticket number a s r.idle

      none_either : (b : Bool) (c : Option Command) → c ≡ None → cond b None c ≡ None
      none_either true c e = refl
      none_either false c e = e
