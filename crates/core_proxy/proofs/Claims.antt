-- What stands in the way of a command, found and not found.
use Rattle.std.proofs.Common.{◌≡◌, ℕ, Bool, true, false, cond, ◌||◌, List, [], ◌∷◌, Some, None, is_none, map, refl, sym, ap, ◌∙◌, subst, nat_eq}
use Rattle.std.specs.Cmp.Lexicographic.{pointwise, nat_list_eq_equiv}
use Rattle.std.specs.List.{list_any}
use Rattle.std.specs.Map.{lookup}
use Rattle.mc_types.specs.declared.ask.Ask.{Ask}
use Rattle.fresh_runs.specs.Overlap.{Slot, slot_in}
use Rattle.core_client.specs.declared.client.Pending.{Pending}
use Rattle.core_commands.specs.declared.command.Command.{Command}
use Rattle.core_client.specs.Clients.{waits_on, has_own}
use Rattle.core_client.specs.ClientState.{dialect}
use Rattle.core_proxy.specs.CoreState.{ArePendingSlots}
use Rattle.core_commands.proofs.Commands.{some_command}
use Rattle.core_proxy.proofs.Slots.{some_slot, no_slot}

first : (b r : Bool) → (b || r) ≡ false → b ≡ false
first true r e = absurd cc
first false r e = refl

later : (b r : Bool) → (b || r) ≡ false → r ≡ false
later true r e = absurd cc
later false r e = e

-- what none passes, no command that is found passes
pub none_of : (test : Command → Bool) (entries : List (ℕ × Command)) (n : ℕ) (a : Command) → list_any test (map (λ e. e.1) entries) ≡ false → lookup (nat_eq n) entries ≡ Some a → test a ≡ false
none_of test [] n a e f = absurd cc
none_of test (x ∷ rest) n a e f =
    (elim (nat_eq n x.0) as (λ b. cond b (Some x.1) (lookup (nat_eq n) rest) ≡ Some a → test a ≡ false) [
      | true ↦ λ f. subst (λ (c : Command). test c ≡ false) (some_command f) (first (test x.1) _ e)
      | false ↦ λ f. none_of test rest n a (later (test x.1) _ e) f
    ]) f

or_true : (b r : Bool) → r ≡ true → (b || r) ≡ true
or_true true r e = refl
or_true false r e = e

waits : (key : List ℕ) (p : Pending) (s : Slot dialect) → s.ask ≡ p.ask → s.reply ≡ p.reply → s.reply ≡ None → s.ask.key ≡ key → waits_on key p ≡ true
waits key p s ask reply none is =
    ap (λ o. cond (is_none o) (pointwise nat_eq p.ask.key key) false) (sym reply ∙ none) ∙ ap (λ k. pointwise nat_eq k key) (ap (λ (a : Ask). a.key) (sym ask) ∙ is) ∙ nat_list_eq_equiv.refl key

-- a client's command without a reply is one of its own on its key
pub own_there : (key : List ℕ) (ps : List Pending) (slots : List (Slot dialect)) (n : ℕ) (s : Slot dialect) → ArePendingSlots ps slots → slot_in slots n ≡ Some s → s.reply ≡ None → s.ask.key ≡ key → has_own key ps ≡ true
own_there key [] [] n s h at none is = no_slot at
own_there key [] (t ∷ slots) n s h at none is = absurd h
own_there key (p ∷ ps) [] n s h at none is = absurd h
own_there key (p ∷ ps) (t ∷ slots) n s h at none is =
    (elim (nat_eq t.number n) as (λ b. cond b (Some t) (slot_in slots n) ≡ Some s → (waits_on key p || has_own key ps) ≡ true) [
      | true ↦ λ at.
          let same : t ≡ s = some_slot at in
          ap (λ b. b || has_own key ps) (waits key p t h.0.ask h.0.reply (ap (λ (u : Slot dialect). u.reply) same ∙ none) (ap (λ (u : Slot dialect). u.ask.key) same ∙ is))
      | false ↦ λ at. or_true (waits_on key p) (has_own key ps) (own_there key ps slots n s h.1 at none is)
    ]) at
