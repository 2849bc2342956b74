-- What `settle` did, by what it wrote.
use Rattle.std.proofs.Common.{◌≡◌, ℕ, Bool, true, false, cond, List, [], ◌∷◌, ◌++◌, Option, Some, None, refl, sym, ap, ◌∙◌, subst, nat_eq}
use Rattle.std.proofs.lemmas.Bool.{eqb-true, eq-eqb}
use Rattle.mc_types.specs.declared.call.Outcome.{Outcome}
use Rattle.fresh_runs.specs.Overlap as log
use Rattle.fresh_runs.specs.Overlap.{Slot, Owner}
use Rattle.core_client.specs.declared.client.Client.{Client}
use Rattle.core_commands.specs.declared.command.Command.{Command}
use Rattle.core_proxy.specs.declared.proxy.Core.{Core}
use Rattle.core_client.specs.ClientState.{dialect, output_by, dropped_by}
use Rattle.core_proxy.specs.CoreState.{client_at, command_at, is_call, has_call_out, IsHeld}
use Rattle.core_proxy.specs.Steps.{Resolves}
use Rattle.core_commands.specs.Lines as line
use Rattle.core_proxy.specs.Settles.{TakesOutcome, asked_by, FitsCall, SettlesBy, StandsWithout, Settles, AreIdle, freed, FreesSome, FreesIdle, DropsBy, TakesOut, SettlesRefused}
use Rattle.core_proxy.specs.OutSince.{out_since}
use Rattle.core_proxy.proofs.Broken.{settles_alone, settles_then, settles_as, stands_alone, stands_then, none_freed, stands_broken, breaks}
use Rattle.core_proxy.proofs.Came.{Came}
use Rattle.core_proxy.proofs.Chains.{Then}
use Rattle.core_commands.proofs.Commands.{some_command, no_command, call_is_true}
use Rattle.core_proxy.proofs.Ending.{frees}
use Rattle.core_proxy.proofs.Freed.{dropped_is}

out_parts : (a : Command) → has_call_out a ≡ true → (a.is_out ≡ true) × (is_call a.job.pending ≡ true)
out_parts a e = by a.is_out (is_call a.job.pending) e
  where
    by : (b c : Bool) → cond b c false ≡ true → (b ≡ true) × (c ≡ true)
    by true c e = (refl, e)
    by false c e = absurd cc

-- a call of this number is out
pub came_of : (old : Core) (number : ℕ) (a : Command) (outcome : Outcome) → command_at old number ≡ Some a → has_call_out a ≡ true → FitsCall old number outcome → Came old number a outcome
came_of old number a outcome was out fits = let p = out_parts a out in record { was = was; waiting = p.0; calling = call_is_true a.job.pending p.1; fits = fits a was out }

module _ (old mid : Core) (number : ℕ) (a b : Command) (outcome : Outcome) (was : command_at old number ≡ Some a) (out : has_call_out a ≡ true) (fits : FitsCall old number outcome) (took : TakesOutcome a outcome b) (commands : (n : ℕ) → command_at mid n ≡ cond (nat_eq number n) (Some b) (command_at old n)) (clients : (c : ℕ) → client_at mid c ≡ client_at old c) (tree : mid.tree ≡ old.tree) (limits : mid.limits ≡ old.limits) (number_is : mid.number ≡ old.number) (lines : mid.lines ≡ old.lines) where
  resolves : Resolves old mid number a b outcome
  resolves =
      let c = came_of old number a outcome was out fits in
      record { was = was; waiting = c.waiting; calling = c.calling; fits = c.fits; commands = commands; idle = took.idle; owner = took.owner; claim = took.claim; rest = took.rest; clients = clients; tree = tree; limits = limits; number_is = number_is }

  own : command_at mid number ≡ Some b
  own = commands number ∙ ap (λ z. cond z (Some b) (command_at old number)) (eq-eqb number number refl)

  others : (n : ℕ) → nat_eq number n ≡ false → command_at mid n ≡ command_at old n
  others n differs = commands n ∙ ap (λ z. cond z (Some b) (command_at old n)) differs

  -- the call is settled where its client is served
  pub goes_further : dropped_by (client_at old a.client) ≡ false → Settles old number outcome mid
  goes_further served =
      record {
        command = a;
        was = was;
        out = out;
        goes = settles_as old mid number a outcome (λ more. more ≡ []) (λ more. more ≡ cond (dropped_by (client_at old a.client)) (log.Frees number ∷ []) []) (λ more e. e ∙ sym (ap (λ z. cond z (log.Frees number ∷ []) []) served)) (settles_alone old mid number a b outcome resolves);
        stands = stands_alone old mid number a b outcome resolves;
        idle = λ c e. subst (λ (d : Command). has_call_out d ≡ false) (some_command (sym own ∙ e)) (ap (λ z. cond z (is_call b.job.pending) false) took.idle);
        others = others;
        clients = clients;
        lines = lines;
      }

  -- nothing is done for its client any more
  pub is_freed : dropped_by (client_at old a.client) ≡ true → (new : Core) → ((n : ℕ) → command_at new n ≡ cond (nat_eq number n) None (command_at mid n)) → ((c : ℕ) → client_at new c ≡ client_at mid c) → new.tree ≡ mid.tree → new.limits ≡ mid.limits → new.number ≡ mid.number → new.lines ≡ mid.lines → Settles old number outcome new
  is_freed dropped new gone stay same limited last stand =
      let x = dropped_is (client_at old a.client) dropped in
      let owner : b.client ≡ a.client = ap (λ (o : Owner). o.client) took.owner in
      let freed_then = frees mid new number b x.0 (record {
        was = own;
        idle = took.idle;
        client_was = ap (client_at mid) owner ∙ clients a.client ∙ x.1;
        dropped = x.2;
        clients = stay;
        commands = gone;
        tree = same;
        limits = limited;
        number_is = last;
      }) in
      record {
        command = a;
        was = was;
        out = out;
        goes = settles_as old new number a outcome (Then (λ more. more ≡ []) (λ more. more ≡ log.Frees number ∷ [])) (λ more. more ≡ cond (dropped_by (client_at old a.client)) (log.Frees number ∷ []) [])
            (λ more t. t.4 ∙ (λ i. t.3 i ++ t.2 i) ∙ sym (ap (λ z. cond z (log.Frees number ∷ []) []) dropped))
            (settles_then old mid new number a outcome (λ more. more ≡ []) (λ more. more ≡ log.Frees number ∷ []) (settles_alone old mid number a b outcome resolves) freed_then);
        stands = stands_then old mid new number a (λ more. more ≡ log.Frees number ∷ []) (stands_alone old mid number a b outcome resolves) freed_then (λ entries e out s. subst (λ l. out_since l out s ≡ out s) (sym e) refl);
        idle = λ c e. no_command (sym (gone number ∙ ap (λ z. cond z None (command_at mid number)) (eq-eqb number number refl)) ∙ e);
        others = λ n differs. gone n ∙ ap (λ z. cond z None (command_at mid n)) differs ∙ others n differs;
        clients = λ c. stay c ∙ clients c;
        lines = stand ∙ lines;
      }

-- memory was refused
module _ (old mid out new : Core) (number : ℕ) (a : Command) (outcome : Outcome) (was : command_at old number ≡ Some a) (is_out : has_call_out a ≡ true) (fits : FitsCall old number outcome) (others : (n : ℕ) → nat_eq number n ≡ false → command_at mid n ≡ command_at old n) (clients : (c : ℕ) → client_at mid c ≡ client_at old c) (tree : mid.tree ≡ old.tree) (limits : mid.limits ≡ old.limits) (number_is : mid.number ≡ old.number) (lines : mid.lines ≡ old.lines) (takes : TakesOut mid number a.client out) (frees_idle : FreesIdle out a.client new) where
  taken : TakesOut old number a.client out
  taken =
      record {
        commands = λ n. takes.commands n ∙ (elim (nat_eq number n) as (λ z. nat_eq number n ≡ z → cond z None (command_at mid n) ≡ cond z None (command_at old n)) [
          | true ↦ λ _. refl
          | false ↦ λ differs. others n differs
        ]) refl;
        client_is = subst (λ o. DropsBy o (client_at out a.client)) (clients a.client) takes.client_is;
        others = λ c differs. takes.others c differs ∙ clients c;
        tree = takes.tree ∙ tree;
        limits = takes.limits ∙ limits;
        number_is = takes.number_is ∙ number_is;
        lines = takes.lines ∙ ap (line.others a.client) lines;
      }

  was_there : (n : ℕ) (command : Command) → command_at out n ≡ Some command → command_at old n ≡ Some command
  was_there n command e =
      (elim (nat_eq number n) as (λ z. cond z None (command_at old n) ≡ Some command → command_at old n ≡ Some command) [
        | true ↦ λ e. no_command e
        | false ↦ λ e. e
      ]) (sym (taken.commands n) ∙ e)

  were_idle : (numbers : List ℕ) → AreIdle out a.client numbers → AreIdle old a.client numbers
  were_idle [] h = tt
  were_idle (n ∷ numbers) h = ((h.0.0, was_there n h.0.0 h.0.1, h.0.2), were_idle numbers h.1)

  abbrev some : FreesSome out a.client new
  some = frees_idle.0

  all : SettlesBy old number a outcome (λ more. more ≡ freed some.numbers ++ log.Frees number ∷ log.Drops a.client ∷ []) new
  all = λ beside end beside_fits is ends. by (client_at old a.client) (beside.queue a.client) (beside_fits.held number a was) taken.client_is beside end beside_fits is ends
    where
      by : (o : Option Client) (slots : List (Slot dialect)) → IsHeld number a o slots → DropsBy o (client_at out a.client) → SettlesBy old number a outcome (λ more. more ≡ freed some.numbers ++ log.Frees number ∷ log.Drops a.client ∷ []) new
      by None slots held drops = absurd held
      by (Some x) slots held drops =
          settles_as old new number a outcome (Then (λ more. more ≡ log.Frees number ∷ log.Drops a.client ∷ []) (λ more. more ≡ freed some.numbers)) (λ more. more ≡ freed some.numbers ++ log.Frees number ∷ log.Drops a.client ∷ [])
          (λ more t. t.4 ∙ (λ i. t.3 i ++ t.2 i))
          (settles_then old out new number a outcome (λ more. more ≡ log.Frees number ∷ log.Drops a.client ∷ []) (λ more. more ≡ freed some.numbers) (breaks old out number a outcome (came_of old number a outcome was is_out fits) taken) (some.goes (ap dropped_by drops.1 ∙ drops.2.dropped)))

  stands_all : StandsWithout old number a new
  stands_all = λ beside beside_fits. by (client_at old a.client) (beside.queue a.client) (beside_fits.held number a was) taken.client_is beside beside_fits
    where
      by : (o : Option Client) (slots : List (Slot dialect)) → IsHeld number a o slots → DropsBy o (client_at out a.client) → StandsWithout old number a new
      by None slots held drops = absurd held
      by (Some x) slots held drops =
          stands_then old out new number a (λ more. more ≡ freed some.numbers) (stands_broken old out number a outcome (came_of old number a outcome was is_out fits) taken) (some.goes (ap dropped_by drops.1 ∙ drops.2.dropped))
          (λ entries e later s. subst (λ l. out_since l later s ≡ later s) (sym e) (none_freed some.numbers later s))

  outputs : (o : Option Client) (now : Option Client) → DropsBy o now → output_by now ≡ output_by o
  outputs None now d = ap output_by d
  outputs (Some x) now d = ap output_by d.1 ∙ d.2.output

  pub breaks_off : SettlesRefused old number outcome new
  breaks_off =
      record {
        command = a;
        was = was;
        out = is_out;
        numbers = some.numbers;
        are = were_idle some.numbers some.idle;
        goes = all;
        stands = stands_all;
        gone = frees_idle.1;
        others = λ n differs. some.calls n ∙ ap asked_by (taken.commands n ∙ ap (λ z. cond z None (command_at old n)) differs);
        lines = some.lines ∙ taken.lines;
        output = λ c. ap output_by (some.clients c) ∙ (elim (nat_eq a.client c) as (λ z. nat_eq a.client c ≡ z → output_by (client_at out c) ≡ output_by (client_at old c)) [
          | true ↦ λ same. subst (λ d. output_by (client_at out d) ≡ output_by (client_at old d)) (eqb-true a.client c same) (outputs (client_at old a.client) (client_at out a.client) taken.client_is)
          | false ↦ λ differs. ap output_by (taken.others c differs)
        ]) refl;
      }
