-- Commands of a client's queue by number.
use Rattle.std.proofs.Common.{◌≡◌, ℕ, Bool, true, false, cond, List, [], ◌∷◌, ◌++◌, Option, Some, None, refl, sym, ap, ◌∙◌, subst, nat_eq}
use Rattle.std.proofs.lemmas.Bool.{eqb-true}
use Rattle.mc_types.specs.declared.answer.Answer.{Answer}
use Rattle.fresh_runs.specs.Overlap.{Slot, slot_in, answered_in, is_last_slot}
use Rattle.core_client.specs.declared.client.Client.{Client}
use Rattle.core_commands.specs.declared.command.Command.{Command}
use Rattle.core_client.specs.ClientState.{dialect}
use Rattle.core_proxy.specs.CoreState.{IsWaitedFor, IsHeld}
use Rattle.core_proxy.proofs.Tickets.{contrary}

pub some_slot : {x y : Slot dialect} → ◌≡◌ {A = Option (Slot dialect)} (Some x) (Some y) → x ≡ y
some_slot e = cc

pub no_slot : {A : Type 0} {x : Slot dialect} → ◌≡◌ {A = Option (Slot dialect)} None (Some x) → A
no_slot e = absurd cc

pub slot_none : {A : Type 0} {x : Slot dialect} → ◌≡◌ {A = Option (Slot dialect)} (Some x) None → A
slot_none e = absurd cc

pub no_reply : {A : Type 0} (a : Answer) → ◌≡◌ {A = Option Answer} (Some a) None → A
no_reply a e = absurd cc

-- where one command more stands after them
pub in_front : (l : List (Slot dialect)) (t s : Slot dialect) (n : ℕ) → slot_in l n ≡ Some s → slot_in (l ++ t ∷ []) n ≡ Some s
in_front [] t s n e = no_slot e
in_front (x ∷ l) t s n e =
    (elim (nat_eq x.number n) as (λ b. cond b (Some x) (slot_in l n) ≡ Some s → cond b (Some x) (slot_in (l ++ t ∷ []) n) ≡ Some s) [
      | true ↦ λ e. e
      | false ↦ λ e. in_front l t s n e
    ]) e

pub at_end : (l : List (Slot dialect)) (t : Slot dialect) (n : ℕ) → slot_in l n ≡ None → nat_eq t.number n ≡ true → slot_in (l ++ t ∷ []) n ≡ Some t
at_end [] t n none same = ap (λ b. cond b (Some t) None) same
at_end (x ∷ l) t n none same =
    (elim (nat_eq x.number n) as (λ b. cond b (Some x) (slot_in l n) ≡ None → cond b (Some x) (slot_in (l ++ t ∷ []) n) ≡ Some t) [
      | true ↦ λ e. slot_none e
      | false ↦ λ e. at_end l t n e same
    ]) none

pub none_more : (l : List (Slot dialect)) (t : Slot dialect) (n : ℕ) → slot_in l n ≡ None → nat_eq t.number n ≡ false → slot_in (l ++ t ∷ []) n ≡ None
none_more [] t n none differs = ap (λ b. cond b (Some t) None) differs
none_more (x ∷ l) t n none differs =
    (elim (nat_eq x.number n) as (λ b. cond b (Some x) (slot_in l n) ≡ None → cond b (Some x) (slot_in (l ++ t ∷ []) n) ≡ None) [
      | true ↦ λ e. slot_none e
      | false ↦ λ e. none_more l t n e differs
    ]) none

-- where the head is gone, which has a reply
pub behind : (h s : Slot dialect) (l : List (Slot dialect)) (n : ℕ) (reply : Answer) → h.reply ≡ Some reply → s.reply ≡ None → slot_in (h ∷ l) n ≡ Some s → slot_in l n ≡ Some s
behind h s l n reply has none e =
    (elim (nat_eq h.number n) as (λ b. cond b (Some h) (slot_in l n) ≡ Some s → slot_in l n ≡ Some s) [
      | true ↦ λ e. no_reply reply (sym has ∙ ap (λ (x : Slot dialect). x.reply) (some_slot e) ∙ none)
      | false ↦ λ e. e
    ]) e

pub none_behind : (h : Slot dialect) (l : List (Slot dialect)) (n : ℕ) → slot_in (h ∷ l) n ≡ None → slot_in l n ≡ None
none_behind h l n e =
    (elim (nat_eq h.number n) as (λ b. cond b (Some h) (slot_in l n) ≡ None → slot_in l n ≡ None) [
      | true ↦ λ e. slot_none e
      | false ↦ λ e. e
    ]) e

-- what a queue has of another number stays where one number has its reply
pub answered_other : (l : List (Slot dialect)) (m n : ℕ) (reply : Answer) → nat_eq m n ≡ false → slot_in (answered_in m reply l) n ≡ slot_in l n
answered_other [] m n reply differs = refl
answered_other (x ∷ l) m n reply differs =
    (elim (nat_eq x.number m) as (λ b. nat_eq x.number m ≡ b → slot_in (cond b (record { number = x.number; message = x.message; index = x.index; ask = x.ask; reply = Some reply } ∷ l) (x ∷ answered_in m reply l)) n ≡ cond (nat_eq x.number n) (Some x) (slot_in l n)) [
      | true ↦ λ same.
          let other : nat_eq x.number n ≡ false = subst (λ k. nat_eq k n ≡ false) (sym (eqb-true x.number m same)) differs in
          ap (λ b. cond b (Some (record { number = x.number; message = x.message; index = x.index; ask = x.ask; reply = Some reply })) (slot_in l n)) other ∙ sym (ap (λ b. cond b (Some x) (slot_in l n)) other)
      | false ↦ λ _. ap (λ o. cond (nat_eq x.number n) (Some x) o) (answered_other l m n reply differs)
    ]) refl

-- where another command is last, which the client doesn't wait for or waits for
pub waited_more : (waits now : Bool) (l : List (Slot dialect)) (t : Slot dialect) → waits ≡ false → IsWaitedFor waits l → (t.reply ≡ None → is_last_slot t ≡ false → now ≡ true) → IsWaitedFor now (l ++ t ∷ [])
waited_more waits now [] t idle h last = ((λ none more. (refl, last none more)), tt)
waited_more waits now (x ∷ l) t idle h last = ((λ none more. contrary waits (h.0 none more).1 idle), waited_more waits now l t idle h.1 last)

-- a command of a client whose queue and state hold it still is held
pub held_then :
    (old new : ℕ → Option Client) (client : ℕ) (a b : Option Client) → old client ≡ a → new client ≡ b → ((c : ℕ) → nat_eq client c ≡ false → new c ≡ old c)
    → (queue queue' : ℕ → List (Slot dialect)) (n : ℕ) (command : Command)
    → (nat_eq client command.client ≡ true → IsHeld n command a (queue command.client) → IsHeld n command b (queue' command.client))
    → (nat_eq client command.client ≡ false → queue' command.client ≡ queue command.client)
    → IsHeld n command (old command.client) (queue command.client) → IsHeld n command (new command.client) (queue' command.client)
held_then old new client a b was is others queue queue' n command here there h =
    (elim (nat_eq client command.client) as (λ z. nat_eq client command.client ≡ z → IsHeld n command (new command.client) (queue' command.client)) [
      | true ↦ λ same.
          let e = eqb-true client command.client same in
          subst (λ o. IsHeld n command o (queue' command.client)) (sym (ap new (sym e) ∙ is)) (here same (subst (λ o. IsHeld n command o (queue command.client)) (ap old (sym e) ∙ was) h))
      | false ↦ λ differs. subst (λ o. IsHeld n command o (queue' command.client)) (sym (others command.client differs)) (subst (IsHeld n command (old command.client)) (sym (there differs)) h)
    ]) refl

-- a client that is dropped or served as before
pub same_held : (x y : Client) (n : ℕ) (command : Command) (slots : List (Slot dialect)) → y.dropped ≡ x.dropped → IsHeld n command (Some x) slots → IsHeld n command (Some y) slots
same_held x y n command slots e h = λ served. h (sym e ∙ served)

-- a command of the same client and ask
pub held_alike : (n : ℕ) (a b : Command) (o : Option Client) (slots : List (Slot dialect)) → b.ask ≡ a.ask → IsHeld n a o slots → IsHeld n b o slots
held_alike n a b None slots e h = h
held_alike n a b (Some x) slots e h = λ served. let s = h served in (s.0, s.1, s.2 ∙ sym e, s.3)
