-- When a command can go on, and the place of each command among those of its client.
use Rattle.std.proofs.Common.{◌≡◌, ℕ, Bool, true, false, cond, List, [], ◌∷◌, Option, Some, None, inl, inr, refl, sym, ap, ◌∙◌, subst, nat_eq, slice_get}
use Rattle.std.specs.Prelude.{IfNone}
use Rattle.indexmap.specs.IndexMap as map
use Rattle.fresh_runs.specs.Overlap.{Slot, slot_in}
use Rattle.route_job.specs.Jobs.{IsCalling}
use Rattle.core_client.specs.declared.client.Client.{Client}
use Rattle.core_client.specs.declared.client.Pending.{Pending}
use Rattle.core_commands.specs.declared.command.Command.{Command}
use Rattle.core_commands.specs.declared.turns.Turn.{Turn}
use Rattle.core_commands.specs.declared.turns.Turn.TheVariants as turns
use Rattle.core_proxy.specs.declared.proxy.Core.{Core}
use Rattle.core_client.specs.Replying.{pending_in, HasPlace}
use Rattle.core_commands.specs.Out.{is_call, has_call_out}
use Rattle.core_commands.specs.Ready.{IsIdle, IsCommandTurn}
use Rattle.core_proxy.specs.Resting.{goes_on, IsHeldUp}
use Rattle.core_client.specs.ClientState.{dialect, IsSlot}
use Rattle.core_proxy.specs.CoreState.{Beside, client_at, command_at, ArePendingSlots, IsAtFront, IsWaitedFor, IsQueue, IsHeld, FitsBeside}
use Rattle.core_commands.proofs.Commands.{is_call_true}
use Rattle.core_proxy.proofs.Ending.{waited_for}
use Rattle.core_proxy.proofs.Slots.{some_slot, no_slot}

-- where a call is next and none is out, the command is idle
pub calling_is_idle : (a : Command) → IsCalling a.job → has_call_out a ≡ false → a.is_out ≡ false
calling_is_idle a calling none = by a.is_out (is_call_true a.job.pending calling) none
  where
    by : (b : Bool) → is_call a.job.pending ≡ true → cond b (is_call a.job.pending) false ≡ false → b ≡ false
    by true is none = sym is ∙ none
    by false is none = refl

pub if_none : {A : Type 0} (o : Option A) (P Q : Type 0) → (P → Q) → IfNone o P → IfNone o Q
if_none None P Q f h = f h
if_none (Some a) P Q f h = tt

-- who can't go on is held up
pub held_up : {S : Type 0} (client window : ℕ) (commands : map.IndexMap ℕ Command S) (number : ℕ) (turn : Turn) → IsCommandTurn client window commands number turn → goes_on turn ≡ false → IsHeldUp client window commands number
held_up client window commands number turns.Sends t e = absurd cc
held_up client window commands number turns.Ends t e = absurd cc
held_up client window commands number turns.Full t e = inr t
held_up client window commands number turns.Rests t e = inl t

-- one of whom no call is out waits for its server then
pub is_full : {S : Type 0} (client window : ℕ) (commands : map.IndexMap ℕ Command S) (number : ℕ) (a : Command) (turn : Turn) → IsIdle client commands number a → IsCommandTurn client window commands number turn → goes_on turn ≡ false → IsCommandTurn client window commands number turns.Full
is_full client window commands number a turns.Sends idle t e = absurd cc
is_full client window commands number a turns.Ends idle t e = absurd cc
is_full client window commands number a turns.Full idle t e = t
is_full client window commands number a turns.Rests idle t e = absurd (let out = t a idle.was idle.own in let none = idle.idle in cc)

-- one of which a call is out doesn't wait for its server
pub called_not_full : {S : Type 0} (client window : ℕ) (commands : map.IndexMap ℕ Command S) (number : ℕ) → IsCommandTurn client window commands number turns.Rests → IsCommandTurn client window commands number turns.Full → ⊥
called_not_full client window commands number rests (a, idle, calling, at) = let out = rests a idle.was idle.own in let none = idle.idle in absurd cc

-- a command's place in the log's queue is one in the client's
placed_in : (ps : List Pending) (slots : List (Slot dialect)) (n : ℕ) (slot : Slot dialect) → ArePendingSlots ps slots → slot_in slots n ≡ Some slot → (p : Pending) × (pending_in n ps ≡ Some p) × IsSlot p slot
placed_in [] [] n slot h is = no_slot is
placed_in [] (s ∷ slots) n slot h is = absurd h
placed_in (q ∷ ps) [] n slot h is = absurd h
placed_in (q ∷ ps) (s ∷ slots) n slot h is =
    (elim (nat_eq q.number n) as (λ b. cond b (Some s) (slot_in slots n) ≡ Some slot → (p : Pending) × (cond b (Some q) (pending_in n ps) ≡ Some p) × IsSlot p slot) [
      | true ↦ λ e. (q, refl, subst (λ (t : Slot dialect). IsSlot q t) (some_slot e) h.0)
      | false ↦ λ e. placed_in ps slots n slot h.1 e
    ]) (ap (λ m. cond (nat_eq m n) (Some s) (slot_in slots n)) (sym h.0.number) ∙ is)

-- wherever a log led, each command of a client that is served has its place
pub placed : (core : Core) (beside : Beside) → FitsBeside core beside → (client number : ℕ) (a : Command) (x : Client) → command_at core number ≡ Some a → a.client ≡ client → client_at core client ≡ Some x → x.dropped ≡ false → (pending : Pending) × HasPlace x number pending
placed core beside fits client number a x is own was served =
    let slots = beside.queue client in
    let q : ArePendingSlots x.queue.items slots × IsAtFront x slots × IsWaitedFor x.waits slots = subst (λ o. IsQueue o slots) was (fits.queues client) in
    let held : (slot : Slot dialect) × (slot_in slots number ≡ Some slot) × (slot.ask ≡ a.ask) × (slot.reply ≡ None) =
    subst (λ o. IsHeld number a o slots) was (subst (λ c. IsHeld number a (client_at core c) (beside.queue c)) own (fits.held number a is)) served in
    let p = placed_in x.queue.items slots number held.0 q.0 held.1 in (
      p.0,
      record {
        there = p.1;
        front = λ last.
            let w = waited_for x slots number held.0 held.1 held.3 (p.2.last ∙ last) q.2 q.1 in
            (held.0.message, w.1.0, p.0.ask, w.1.1, ap (λ i. slice_get (dialect.asks_of held.0.message) i) (sym w.0) ∙ p.2.asks);
      },
    )
