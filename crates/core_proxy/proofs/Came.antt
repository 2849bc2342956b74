-- A call that is out and whose outcome came.
use Rattle.std.proofs.Common.{◌≡◌, ℕ, ◌+◌, ◌<◌, Bool, true, false, cond, [], ◌∷◌, ◌++◌, Some, None, option_map, refl, sym, ap, ◌∙◌, subst, nat_eq}
use Rattle.std.proofs.lemmas.Bool.{eqb-true, eq-eqb}
use Rattle.mc_types.specs.declared.ask.Ask.{Ask}
use Rattle.mc_types.specs.declared.call.Outcome.{Outcome}
use Rattle.mc_types.specs.declared.call.Origin.{Origin}
use Rattle.mc_types.specs.declared.call.Origin.TheVariants.{Client as OfClient}
use Rattle.fresh_runs.specs.Calls.{End, outcome_of}
use Rattle.fresh_runs.specs.Fleet.{EndsIn}
use Rattle.fresh_runs.specs.Single.{FitsOutcome}
use Rattle.fresh_runs.specs.Run.{Event, Calls, after_event}
use Rattle.fresh_runs.specs.Overlap.{ticket_in, without_ticket, out_after}
use Rattle.fresh_runs.specs.OverlapState.{HasResult, found_after}
use Rattle.route_job.specs.Rest.{ask_under, origin_under}
use Rattle.route_job.specs.Jobs.{server_of_pending, call_of, IsCalling}
use Rattle.core_commands.specs.declared.command.Command.{Command}
use Rattle.core_proxy.specs.declared.proxy.Core.{Core}
use Rattle.core_proxy.specs.CoreState.{command_at, Beside, owner_by, MayComeOf, state_of, is_call, ticket_by, FitsBeside}
use Rattle.core_commands.proofs.Commands.{is_call_true}
use Rattle.core_proxy.proofs.Commands.{call_key, goes_on}
use Rattle.core_proxy.proofs.Tickets.{some_none, less_other, less_single, none_without}

-- a call of this number is out, and this outcome of it came
pub record Came (old : Core) (number : ℕ) (a : Command) (outcome : Outcome) : Type 0 where
  pub was : command_at old number ≡ Some a
  pub waiting : a.is_out ≡ true
  pub calling : IsCalling a.job
  pub fits : FitsOutcome (ask_under a.job.frames.items a.job.ask) outcome

module _ (old : Core) (number : ℕ) (a : Command) (outcome : Outcome) (r : Came old number a outcome) where
  abbrev pub ask : Ask
  ask = ask_under a.job.frames.items a.job.ask

  abbrev pub origin : Origin
  origin = origin_under a.job.frames.items OfClient

  abbrev pub server : ℕ
  server = server_of_pending a.job.pending

  abbrev pub event : End → Event
  event end = Calls number server ask origin end

  -- what stands beside the core then
  abbrev pub settled : End → Beside → Beside
  settled end beside =
      record beside {
        out = λ s. out_after (event end) s (beside.out s);
        holds = after_event (event end) beside.holds;
        found = found_after (event end) beside.holds beside.found;
        turn = beside.turn + 1;
      }

  ticket_was : (beside : Beside) → FitsBeside old beside → (s : ℕ) → ticket_in (beside.out s) number ≡ cond (nat_eq server s) (Some (record { number = number; ask = ask; origin = origin })) None
  ticket_was beside fits s = fits.tickets s number ∙ ap (λ o. ticket_by o number s) r.was ∙ ap (λ z. cond (cond z (is_call a.job.pending) false) (cond (nat_eq server s) (Some (record { number = number; ask = ask; origin = origin })) None) None) r.waiting
      ∙ ap (λ z. cond z (cond (nat_eq server s) (Some (record { number = number; ask = ask; origin = origin })) None) None) (is_call_true a.job.pending r.calling)

  -- the call is out no more
  pub none_then : (beside : Beside) → FitsBeside old beside → (end : End) → (s : ℕ) → ticket_in (out_after (event end) s (beside.out s)) number ≡ None
  none_then beside fits end s = own (nat_eq server s) refl
    where
      own : (z : Bool) → nat_eq server s ≡ z → ticket_in (cond z (without_ticket number (beside.out s)) (beside.out s)) number ≡ None
      own true e = fits.single s number
      own false e = ticket_was beside fits s ∙ ap (λ z. cond z (Some (record { number = number; ask = ask; origin = origin })) None) e

  -- each other call is where it was
  pub other_then : (beside : Beside) → (end : End) → (s n : ℕ) → nat_eq number n ≡ false → ticket_in (out_after (event end) s (beside.out s)) n ≡ ticket_in (beside.out s) n
  other_then beside end s n differs = other (nat_eq server s)
    where
      other : (z : Bool) → ticket_in (cond z (without_ticket number (beside.out s)) (beside.out s)) n ≡ ticket_in (beside.out s) n
      other true = less_other (beside.out s) number n differs
      other false = refl

  pub single_then : (beside : Beside) → FitsBeside old beside → (end : End) → (s n : ℕ) → ticket_in (without_ticket n (out_after (event end) s (beside.out s))) n ≡ None
  single_then beside fits end s n = by (nat_eq server s)
    where
      by : (z : Bool) → ticket_in (without_ticket n (cond z (without_ticket number (beside.out s)) (beside.out s))) n ≡ None
      by false = fits.single s n
      by true =
          (elim (nat_eq number n) as (λ z. nat_eq number n ≡ z → ticket_in (without_ticket n (without_ticket number (beside.out s))) n ≡ None) [
            | true ↦ λ same. subst (λ m. ticket_in (without_ticket m (without_ticket number (beside.out s))) m ≡ None) (eqb-true number n same) (none_without (without_ticket number (beside.out s)) number (fits.single s number))
            | false ↦ λ differs. less_single (beside.out s) number n differs ∙ fits.single s n
          ]) refl

  pub below : (beside : Beside) → FitsBeside old beside → (n : ℕ) → old.number < n → nat_eq number n ≡ false
  below beside fits n lt =
      (elim (nat_eq number n) as (λ z. nat_eq number n ≡ z → z ≡ false) [
        | true ↦ λ same. some_none a (sym r.was ∙ ap (command_at old) (eqb-true number n same) ∙ fits.numbers n lt)
        | false ↦ λ _. refl
      ]) refl

  pub unseen_then : (beside : Beside) → FitsBeside old beside → (end : End) → (n : ℕ) → old.number < n → found_after (event end) beside.holds beside.found n ≡ []
  unseen_then beside fits end n lt = ap (λ z. cond z (beside.found n ++ beside.holds server ask.key ∷ []) (beside.found n)) (below beside fits n lt) ∙ fits.unseen n lt

  -- the call has its result
  pub has_result : (beside : Beside) (end : End) → FitsBeside old beside → outcome ≡ outcome_of end → EndsIn (beside.holds server ask.key) (beside.found number) number ask origin end → HasResult (state_of old beside) number server ask origin end
  has_result beside end fits is ends =
      let more = goes_on old.limits.sharing (beside.at number a.ask.key) a (fits.to_come number a r.was) r.calling outcome r.fits in
      record {
        owner = owner_by a;
        held = ap (option_map owner_by) r.was;
        key = call_key old.limits.sharing (beside.at number a.ask.key) a (fits.to_come number a r.was) r.calling;
        out = ticket_was beside fits server ∙ ap (λ z. cond z (Some (record { number = number; ask = ask; origin = origin })) None) (eq-eqb server server refl);
        more = more.0;
        reply = more.1.reply;
        from = more.1.from;
        to_come = subst (λ o. MayComeOf (command_at old number) (record { server = server; ask = ask; origin = origin; outcome = o } ∷ more.0) more.1.reply more.1.from) is (subst (λ o. MayComeOf o (call_of a.job outcome ∷ more.0) more.1.reply more.1.from) (sym r.was) more.2);
        ends = ends;
      }
