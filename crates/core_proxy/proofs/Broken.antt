-- What comes with the result of a call: nothing more, or a command that is broken off, or a client that is dropped.
use Rattle.std.proofs.Common.{◌≡◌, ℕ, ◌<◌, Bool, true, false, cond, List, [], ◌∷◌, ◌++◌, Option, Some, None, option_map, refl, sym, ap, ◌∙◌, subst, append_assoc, nat_eq}
use Rattle.std.proofs.lemmas.Bool.{eqb-true, eq-eqb}
use Rattle.mc_types.specs.declared.answer.Answer.{Answer}
use Rattle.mc_types.specs.declared.call.Outcome.{Outcome}
use Rattle.fresh_runs.specs.Calls.{Call, End, Never}
use Rattle.fresh_runs.specs.Overlap as log
use Rattle.fresh_runs.specs.Overlap.{Entry, Slot, Ticket, Happens, ticket_in, out_after}
use Rattle.fresh_runs.specs.OverlapState.{Leads, Either}
use Rattle.fresh_runs.proofs.OverlapSteps.{walks_lead, leads_on}
use Rattle.route_tree.specs.At.{tree_at}
use Rattle.route_tree.specs.Word.{tree_words}
use Rattle.core_client.specs.declared.client.Client.{Client}
use Rattle.core_commands.specs.declared.command.Command.{Command}
use Rattle.core_proxy.specs.declared.proxy.Core.{Core}
use Rattle.core_client.specs.ClientState.{dialect, front_by, output_by, dropped_by}
use Rattle.core_proxy.specs.CoreState.{bars_of, client_at, command_at, Beside, owner_by, MayComeOf, state_of, ArePendingSlots, IsWaitedFor, IsQueue, IsHeld, IsOnItsWay, ticket_by, FitsBeside, GoesByEntries, version_by}
use Rattle.core_proxy.specs.Steps.{event_of_call, settled_beside, Resolves}
use Rattle.core_proxy.specs.Ending.{Drops}
use Rattle.core_proxy.specs.OutSince.{out_since}
use Rattle.core_proxy.specs.Settles.{SettlesBy, StandsWithout, freed, DropsBy, TakesOut}
use Rattle.core_proxy.proofs.Came.{Came, none_then, other_then, single_then, below, unseen_then, has_result}
use Rattle.core_proxy.proofs.Chains.{Then, beside_on, leads_there}
use Rattle.core_proxy.proofs.Clients.{on_its_way_kept, by_client}
use Rattle.core_commands.proofs.Commands.{no_command}
use Rattle.core_proxy.proofs.Commands.{by_number}
use Rattle.core_proxy.proofs.Ending.{front_same, none_owned}
use Rattle.core_proxy.proofs.Settling.{settles, still_stands}
use Rattle.core_proxy.proofs.Slots.{held_then}
use Rattle.core_proxy.proofs.Tickets.{contrary}

-- a call is settled, and nothing more comes
pub settles_alone : (old new : Core) (number : ℕ) (a b : Command) (outcome : Outcome) → Resolves old new number a b outcome → SettlesBy old number a outcome (λ more. more ≡ []) new
settles_alone old new number a b outcome r = λ beside end fits is ends.
    let s = settles old new number a b outcome r beside end fits is ends in
    (settled_beside (event_of_call number a end) beside, [], s.0, record { at = refl; holds = refl; found = refl; turn = refl }, refl, s.1, r.limits)

-- and what could stand beside the core can without that call
pub stands_alone : (old new : Core) (number : ℕ) (a b : Command) (outcome : Outcome) → Resolves old new number a b outcome → StandsWithout old number a new
stands_alone old new number a b outcome r = λ beside fits. (settled_beside (event_of_call number a Never) beside, still_stands old new number a b outcome r beside Never fits, λ s. refl)

-- and then more comes that tells of no call
pub stands_then :
    (old mid new : Core) (number : ℕ) (a : Command) (IsMore : List (Entry dialect) → Type 0) → StandsWithout old number a mid → GoesByEntries mid IsMore new
    → ((entries : List (Entry dialect)) → IsMore entries → (out : ℕ → List Ticket) (s : ℕ) → out_since entries out s ≡ out s) → StandsWithout old number a new
stands_then old mid new number a IsMore w g none = λ beside fits.
    let x = w beside fits in
    let y = g x.0 x.1 in
    (y.0, y.2, λ s. y.7 s ∙ none y.1 y.4 x.0.out s ∙ x.2 s)

-- commands that are broken off have no call out
pub none_freed : (numbers : List ℕ) (out : ℕ → List Ticket) (s : ℕ) → out_since (freed numbers) out s ≡ out s
none_freed [] out s = refl
none_freed (n ∷ numbers) out s = none_freed numbers out s

-- a call is settled, and then more comes
pub settles_then : (old mid new : Core) (number : ℕ) (a : Command) (outcome : Outcome) (IsFirst IsSecond : List (Entry dialect) → Type 0) → SettlesBy old number a outcome IsFirst mid → GoesByEntries mid IsSecond new → SettlesBy old number a outcome (Then IsFirst IsSecond) new
settles_then old mid new number a outcome IsFirst IsSecond s g = λ beside end fits is ends.
    let x = s beside end fits is ends in
    let y = g x.0 x.2 in
    let words = tree_words beside.at in
    let happens : List (Entry dialect) = Happens (event_of_call number a end) ∷ [] in
    let second = leads_there mid old new beside x.0 y.1 y.0 x.3.at x.6 y.5 in
    let both : Leads words (bars_of old beside) (state_of old beside) (y.1 ++ (x.1 ++ happens)) (state_of new y.0) = leads_on words (bars_of old beside) (state_of old beside) (state_of mid x.0) (state_of new y.0) (x.1 ++ happens) y.1 x.5 second in
    (y.0, y.1 ++ x.1, y.2, beside_on (settled_beside (event_of_call number a end) beside) x.0 y.0 x.3 y.3, (x.1, y.1, x.4, y.4, refl), subst (λ l. Leads words (bars_of old beside) (state_of old beside) l (state_of new y.0)) (sym (append_assoc y.1 x.1 happens)) both, y.6 ∙ x.6)

pub settles_as : (old new : Core) (number : ℕ) (a : Command) (outcome : Outcome) (IsOne IsOther : List (Entry dialect) → Type 0) → ((entries : List (Entry dialect)) → IsOne entries → IsOther entries) → SettlesBy old number a outcome IsOne new → SettlesBy old number a outcome IsOther new
settles_as old new number a outcome IsOne IsOther f s = λ beside end fits is ends.
    let x = s beside end fits is ends in
    (x.0, x.1, x.2, x.3, f x.1 x.4, x.5, x.6)

module _ (old new : Core) (number : ℕ) (a : Command) (outcome : Outcome) (came : Came old number a outcome) (r : TakesOut old number a.client new) where
  module _ (x y : Client) (was : client_at old a.client ≡ Some x) (now : client_at new a.client ≡ Some y) (d : Drops x y) where
    front_is : front_by (Some y) ≡ front_by (Some x)
    front_is = λ i. record { place = d.stream i; index = d.index i; waits = d.waits i }

    queue_then : (slots : List (Slot dialect)) → IsQueue (Some x) slots → IsQueue (Some y) slots
    queue_then slots q = (subst (λ l. ArePendingSlots l slots) (sym d.queue) q.0, front_same x y front_is slots q.1, subst (λ w. IsWaitedFor w slots) (sym d.waits) q.2)

    same_of : {A : Type 0} (f : Option Client → A) → f (Some y) ≡ f (Some x) → (c : ℕ) → f (client_at new c) ≡ f (client_at old c)
    same_of f e c = by_client a.client c (λ d. f (client_at new d) ≡ f (client_at old d)) (ap f now ∙ e ∙ ap f (sym was)) (λ differs. ap f (r.others c differs))

    queues_then : (beside : Beside) → FitsBeside old beside → (c : ℕ) → IsQueue (client_at new c) (beside.queue c)
    queues_then beside fits c =
        by_client a.client c (λ d. IsQueue (client_at new d) (beside.queue d)) (subst (λ o. IsQueue o (beside.queue a.client)) (sym now) (queue_then (beside.queue a.client) (subst (λ o. IsQueue o (beside.queue a.client)) was (fits.queues a.client))))
        (λ differs. subst (λ o. IsQueue o (beside.queue c)) (sym (r.others c differs)) (fits.queues c))

    held_still : (beside : Beside) → FitsBeside old beside → (n : ℕ) (command : Command) → command_at new n ≡ Some command → IsHeld n command (client_at new command.client) (beside.queue command.client)
    held_still beside fits =
        by_number old new number None r.commands (λ n command. IsHeld n command (client_at new command.client) (beside.queue command.client)) (λ command e. no_command e)
        (λ n command _ e. held_then (client_at old) (client_at new) a.client (Some x) (Some y) was now r.others beside.queue beside.queue n command (λ _ _ served. contrary y.dropped d.dropped served) (λ _. refl) (fits.held n command e))

    tickets_then : (beside : Beside) → FitsBeside old beside → (end : End) → (s n : ℕ) → ticket_in (out_after (event_of_call number a end) s (beside.out s)) n ≡ ticket_by (command_at new n) n s
    tickets_then beside fits end s n =
        (elim (nat_eq number n) as (λ z. nat_eq number n ≡ z → ticket_in (out_after (event_of_call number a end) s (beside.out s)) n ≡ ticket_by (cond z None (command_at old n)) n s) [
          | true ↦ λ same. subst (λ m. ticket_in (out_after (event_of_call number a end) s (beside.out s)) m ≡ None) (eqb-true number n same) (none_then old number a outcome came beside fits end s)
          | false ↦ λ differs. other_then old number a outcome came beside end s n differs ∙ fits.tickets s n
        ]) refl ∙ ap (λ o. ticket_by o n s) (sym (r.commands n))

    to_come_like : (A : Type 0) (n : ℕ) (calls : List Call) (reply : Answer) (from : Option ℕ) → MayComeOf (command_at new n) calls reply from → Either (nat_eq number n) A (MayComeOf (command_at old n) calls reply from)
    to_come_like A n calls reply from l =
        (elim (nat_eq number n) as (λ z. MayComeOf (cond z None (command_at old n)) calls reply from → Either z A (MayComeOf (command_at old n) calls reply from)) [
          | true ↦ λ l. absurd l
          | false ↦ λ l. l
        ]) (subst (λ o. MayComeOf o calls reply from) (r.commands n) l)

    stands_there : (beside : Beside) (end : End) → FitsBeside old beside → FitsBeside new (settled_beside (event_of_call number a end) beside)
    stands_there beside end fits = record {
      queues = queues_then beside fits;
      held = held_still beside fits;
      numbered = λ c n lt. fits.numbered c n (subst (λ m. m < n) r.number_is lt);
      to_come = by_number old new number None r.commands (λ n command. IsOnItsWay new.limits.sharing (beside.at n command.ask.key) command) (λ command e. no_command e) (λ n command _ e. on_its_way_kept old new (beside.at n command.ask.key) command r.limits (fits.to_come n command e));
      tickets = tickets_then beside fits end;
      single = single_then old number a outcome came beside fits end;
      numbers = λ n lt.
          let l = subst (λ m. m < n) r.number_is lt in
          r.commands n ∙ ap (λ z. cond z None (command_at old n)) (below old number a outcome came beside fits n l) ∙ fits.numbers n l;
      unseen = λ n lt. unseen_then old number a outcome came beside fits end n (subst (λ m. m < n) r.number_is lt);
      trees = λ n key lt. fits.trees n key (subst (λ m. m < n) r.number_is lt) ∙ ap (λ t. tree_at t key) (sym r.tree);
    }

    breaks_there : SettlesBy old number a outcome (λ more. more ≡ log.Frees number ∷ log.Drops a.client ∷ []) new
    breaks_there = λ beside end fits is ends.
        let beside' : Beside = settled_beside (event_of_call number a end) beside in (
          beside',
          log.Frees number ∷ log.Drops a.client ∷ [],
          stands_there beside end fits,
          record { at = refl; holds = refl; found = refl; turn = refl },
          refl,
          walks_lead (tree_words beside.at) (bars_of old beside) (state_of old beside) (state_of new beside') (log.Frees number ∷ log.Drops a.client ∷ Happens (event_of_call number a end) ∷ []) (record {
            may = (
              (
                (owner_by a, ap (option_map owner_by) came.was, dropped_now (dropped_by (client_at old a.client))),
                none_then old number a outcome came beside fits end,
              ),
              (tt, (has_result old number a outcome came beside end fits is ends, tt)),
            );
            like = record {
              front = same_of front_by front_is;
              queue = λ c. refl;
              output = same_of output_by d.output;
              dropped = λ c. (elim (nat_eq a.client c) as (λ z. nat_eq a.client c ≡ z → dropped_by (client_at new c) ≡ cond z true (dropped_by (client_at old c))) [
                | true ↦ λ same. subst (λ e. dropped_by (client_at new e) ≡ true) (eqb-true a.client c same) (ap dropped_by now ∙ d.dropped)
                | false ↦ λ differs. ap dropped_by (r.others c differs)
              ]) refl;
              number = r.number_is;
              owner = λ n. ap (option_map owner_by) (r.commands n) ∙ none_owned (nat_eq number n) (command_at old n);
              to_come = λ n o e calls reply from l. to_come_like _ n calls reply from l;
              out = λ s. refl;
              holds = λ s k. refl;
              found = λ n o e. refl;
              turn = refl;
              version = ap version_by r.limits;
            };
          }),
          r.limits,
        )
      where
        dropped_now : (b : Bool) → cond (nat_eq a.client a.client) true b ≡ true
        dropped_now b = ap (λ z. cond z true b) (eq-eqb a.client a.client refl)

  -- without its call
  pub stands_broken : StandsWithout old number a new
  stands_broken = λ beside fits. by (client_at old a.client) refl (beside.queue a.client) (fits.held number a came.was) r.client_is beside fits
    where
      by : (o : Option Client) → client_at old a.client ≡ o → (slots : List (Slot dialect)) → IsHeld number a o slots → DropsBy o (client_at new a.client) → StandsWithout old number a new
      by None was slots held drops = absurd held
      by (Some x) was slots held drops = λ beside fits. (settled_beside (event_of_call number a Never) beside, stands_there x drops.0 was drops.1 drops.2 beside Never fits, λ s. refl)

  -- the command is broken off, and its client is dropped
  pub breaks : SettlesBy old number a outcome (λ more. more ≡ log.Frees number ∷ log.Drops a.client ∷ []) new
  breaks = λ beside end fits is ends. by (client_at old a.client) refl (beside.queue a.client) (fits.held number a came.was) r.client_is beside end fits is ends
    where
      by : (o : Option Client) → client_at old a.client ≡ o → (slots : List (Slot dialect)) → IsHeld number a o slots → DropsBy o (client_at new a.client) → SettlesBy old number a outcome (λ more. more ≡ log.Frees number ∷ log.Drops a.client ∷ []) new
      by None was slots held drops = absurd held
      by (Some x) was slots held drops = breaks_there x drops.0 was drops.1 drops.2
