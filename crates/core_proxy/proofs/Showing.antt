-- A reply that the core wrote for the head of a client's commands is one that is shown.
use Rattle.std.proofs.Common.{◌≡◌, ℕ, zero, suc, ◌<◌, Bool, true, false, cond, List, [], ◌∷◌, ◌++◌, Some, None, refl, sym, ap, ◌∙◌, subst, nat_eq, slice_get}
use Rattle.std.proofs.lemmas.Bool.{eqb-true}
use Rattle.wire_parts.specs.Sending.{bytes_of}
use Rattle.mc_types.specs.declared.ask.Ask.{Ask}
use Rattle.mc_types.specs.declared.answer.Answer.{Answer}
use Rattle.fresh_runs.specs.Overlap.{Slot, Shows, slot_in, behind_head}
use Rattle.fresh_runs.proofs.OverlapSteps.{walks_lead}
use Rattle.wire_stream.specs.Asks.{asks_of, quiet_of}
use Rattle.wire_stream.specs.TextProtocol.{Whole, LongLine, OtherProtocol, asks_in, shown_by, shown_of}
use Rattle.wire_stream.specs.Replies.{is_last_ask, shown_text}
use Rattle.route_tree.specs.At.{tree_at}
use Rattle.route_tree.specs.Word.{tree_words}
use Rattle.core_client.specs.declared.client.Pending.{Pending}
use Rattle.core_client.specs.declared.client.Client.{Client}
use Rattle.core_proxy.specs.declared.proxy.Core.{Core}
use Rattle.core_proxy.specs.Steps.{Turns}
use Rattle.core_client.specs.Heads.{ShowsHead}
use Rattle.core_client.specs.ClientState.{dialect, ClientMessage, quiet_in, front_by, output_by, dropped_by, IsSlot}
use Rattle.core_proxy.specs.CoreState.{bars_of, Beside, client_at, MayComeOf, state_of, ArePendingSlots, IsAtFront, IsWaitedFor, IsQueue, ticket_by, GoesByEntries, version_by}
use Rattle.core_proxy.proofs.Slots.{no_reply, behind, none_behind, held_then}
use Rattle.core_proxy.proofs.Clients.{on_its_way_kept, changed, stays, command_stays, owners}

-- the text that the core writes is that of the message
shown_is : (message : ClientMessage) (index : ℕ) (ask : Ask) (reply : Answer) → slice_get (asks_in message) index ≡ Some ask → shown_of message index reply ≡ shown_text (quiet_in message) (is_last_ask (asks_in message) index) ask reply
shown_is (Whole message) index ask reply at = ap (λ o. shown_by (quiet_of message) (asks_of message) index o reply) at
shown_is LongLine zero ask reply at = absurd cc
shown_is LongLine (suc i) ask reply at = absurd cc
shown_is OtherProtocol zero ask reply at = absurd cc
shown_is OtherProtocol (suc i) ask reply at = absurd cc

slot_shown : (pending : Pending) (slot : Slot dialect) (reply : Answer) → IsSlot pending slot → shown_of slot.message slot.index reply ≡ shown_text pending.quiet pending.last pending.ask reply
slot_shown pending slot reply s =
    shown_is slot.message slot.index pending.ask reply s.asks ∙ ap (λ q. shown_text q (is_last_ask (asks_in slot.message) slot.index) pending.ask reply) s.quiet ∙ ap (λ l. shown_text pending.quiet l pending.ask reply) s.last

-- the slots of a queue with a head
split : (pending : Pending) (rest : List Pending) (slots : List (Slot dialect)) → ArePendingSlots (pending ∷ rest) slots → (slot : Slot dialect) × (more : List (Slot dialect)) × (slots ≡ slot ∷ more) × IsSlot pending slot × ArePendingSlots rest more
split pending rest [] h = absurd h
split pending rest (slot ∷ more) h = (slot, more, refl, h.0, h.1)

less_none : (l : List (Slot dialect)) (n : ℕ) → slot_in l n ≡ None → slot_in (behind_head l) n ≡ None
less_none [] n e = refl
less_none (h ∷ l) n e = none_behind h l n e

not_waiting : (b : Bool) → (b ≡ true → ⊥) → b ≡ false
not_waiting true f = absurd (f refl)
not_waiting false f = refl

behind_front : (x y : Client) (slot : Slot dialect) (more : List (Slot dialect)) (reply : Answer) → slot.reply ≡ Some reply → y.stream ≡ x.stream → y.index ≡ x.index → y.waits ≡ x.waits → IsAtFront x (slot ∷ more) → IsAtFront y more
behind_front x y slot [] reply has stream index waits h = waits ∙ not_waiting x.waits (λ w. no_reply reply (sym has ∙ (h w).0))
behind_front x y slot (next ∷ more) reply has stream index waits h = same next more h
  where
    same : (s : Slot dialect) (l : List (Slot dialect)) → IsAtFront x (s ∷ l) → IsAtFront y (s ∷ l)
    same s [] h = λ w. let a = h (sym waits ∙ w) in (a.0, a.1, a.2 ∙ sym index, (a.3.0, subst (λ p. dialect.Reads p s.message a.3.0) (sym stream) a.3.1))
    same s (t ∷ l) h = same t l h

module _ (old new : Core) (client : ℕ) (x y : Client) (pending : Pending) (reply : Answer) (t : Turns old new client (Some x) (Some y)) (p : ShowsHead x pending reply y) where
  abbrev less : (ℕ → List (Slot dialect)) → ℕ → List (Slot dialect)
  less queue c = cond (nat_eq client c) (behind_head (queue c)) (queue c)

  -- the reply is shown
  pub shows : GoesByEntries old (λ entries. (slot : Slot dialect) × (slot.number ≡ pending.number) × (entries ≡ Shows client slot reply ∷ [])) new
  shows = λ beside fits.
      let queue = beside.queue in
      let beside' : Beside = record beside { queue = less queue } in
      let mine : ArePendingSlots x.queue.items (queue client) × IsAtFront x (queue client) × IsWaitedFor x.waits (queue client) = subst (λ o. IsQueue o (queue client)) t.was (fits.queues client) in
      let cut = split pending p.rest (queue client) (subst (λ l. ArePendingSlots l (queue client)) p.head mine.0) in
      let slot = cut.0 in
      let is : queue client ≡ slot ∷ cut.1 = cut.2 in
      let has : slot.reply ≡ Some reply = cut.3.reply ∙ p.replied in
      let text : bytes_of y.output ≡ bytes_of x.output ++ shown_of slot.message slot.index reply = p.output ∙ ap (λ l. bytes_of x.output ++ l) (sym (slot_shown pending slot reply cut.3)) in
      let here : IsQueue (client_at new client) (behind_head (queue client)) =
      subst (λ o. IsQueue o (behind_head (queue client))) (sym t.is)
      (subst (λ l. ArePendingSlots y.queue.items (behind_head l) × IsAtFront y (behind_head l) × IsWaitedFor y.waits (behind_head l)) (sym is) (subst (λ l. ArePendingSlots l cut.1) (sym p.queue) cut.4, behind_front x y slot cut.1 reply has p.stream p.index p.waits (subst (IsAtFront x) is mine.1), subst (λ w. IsWaitedFor w cut.1) (sym p.waits) (subst (IsWaitedFor x.waits) is mine.2).1)) in (
        beside',
        Shows client slot reply ∷ [],
        record {
          queues = λ c. (elim (nat_eq client c) as (λ b. nat_eq client c ≡ b → IsQueue (client_at new c) (cond b (behind_head (queue c)) (queue c))) [
            | true ↦ λ same. subst (λ d. IsQueue (client_at new d) (behind_head (queue d))) (eqb-true client c same) here
            | false ↦ λ differs. subst (λ o. IsQueue o (queue c)) (sym (t.others c differs)) (fits.queues c)
          ]) refl;
          held = λ n command e.
              held_then (client_at old) (client_at new) client (Some x) (Some y) t.was t.is t.others queue (less queue) n command
              (λ same h served.
              let s = h (sym p.dropped ∙ served) in
              let here : queue command.client ≡ slot ∷ cut.1 = ap queue (sym (eqb-true client command.client same)) ∙ is in (
                s.0,
                ap (λ b. slot_in (cond b (behind_head (queue command.client)) (queue command.client)) n) same ∙ ap (λ l. slot_in (behind_head l) n) here ∙ behind slot s.0 cut.1 n reply has s.3 (ap (λ l. slot_in l n) (sym here) ∙ s.1),
                s.2,
                s.3,
              ))
              (λ differs. ap (λ b. cond b (behind_head (queue command.client)) (queue command.client)) differs) (fits.held n command (sym (command_stays old new client (Some x) (Some y) t n) ∙ e));
          numbered = λ c n lt. (elim (nat_eq client c) as (λ b. slot_in (cond b (behind_head (queue c)) (queue c)) n ≡ None) [
            | true ↦ less_none (queue c) n (fits.numbered c n (subst (λ m. m < n) t.number lt))
            | false ↦ fits.numbered c n (subst (λ m. m < n) t.number lt)
          ]);
          to_come = λ n command e. on_its_way_kept old new (beside.at n command.ask.key) command t.limits (fits.to_come n command (sym (command_stays old new client (Some x) (Some y) t n) ∙ e));
          tickets = λ s n. fits.tickets s n ∙ ap (λ o. ticket_by o n s) (sym (command_stays old new client (Some x) (Some y) t n));
          single = fits.single;
          numbers = λ n lt. command_stays old new client (Some x) (Some y) t n ∙ fits.numbers n (subst (λ m. m < n) t.number lt);
          unseen = λ n lt. fits.unseen n (subst (λ m. m < n) t.number lt);
          trees = λ n key lt. fits.trees n key (subst (λ m. m < n) t.number lt) ∙ ap (λ r. tree_at r key) (sym t.tree);
        },
        record { at = refl; holds = refl; found = refl; turn = refl },
        (slot, cut.3.number, refl),
        walks_lead (tree_words beside.at) (bars_of old beside) (state_of old beside) (state_of new beside') (Shows client slot reply ∷ []) (record {
          may = (((cut.1, is), has, ap dropped_by t.was ∙ p.served), tt);
          like = record {
            front = stays old new client (Some x) (Some y) t front_by (λ i. record { place = p.stream i; index = p.index i; waits = p.waits i });
            queue = λ c. refl;
            output = changed old new client (Some x) (Some y) t output_by (λ l. l ++ shown_of slot.message slot.index reply) text;
            dropped = stays old new client (Some x) (Some y) t dropped_by p.dropped;
            number = t.number;
            owner = owners old new client (Some x) (Some y) t;
            to_come = λ n o e calls reply from l. subst (λ m. MayComeOf m calls reply from) (command_stays old new client (Some x) (Some y) t n) l;
            out = λ s. refl;
            holds = λ s k. refl;
            found = λ n o e. refl;
            turn = refl;
            version = ap version_by t.limits;
          };
        }),
        t.limits,
        λ s. refl,
      )
