-- A call whose result a job took is one that has its result.
use Rattle.std.proofs.Common.{◌≡◌, ℕ, ◌+◌, ◌<◌, true, false, cond, List, [], ◌∷◌, Option, Some, None, option_map, refl, sym, ap, ◌∙◌, subst, nat_eq}
use Rattle.std.proofs.lemmas.Bool.{eqb-true}
use Rattle.mc_types.specs.declared.ask.Ask.{Ask}
use Rattle.mc_types.specs.declared.answer.Answer.{Answer}
use Rattle.mc_types.specs.declared.call.Outcome.{Outcome}
use Rattle.mc_types.specs.declared.call.Origin.{Origin}
use Rattle.mc_types.specs.declared.call.Origin.TheVariants.{Client as OfClient}
use Rattle.fresh_runs.specs.Calls.{Call, End, outcome_of}
use Rattle.fresh_runs.specs.Fleet.{EndsIn}
use Rattle.fresh_runs.specs.Run.{Event, Calls, after_event}
use Rattle.fresh_runs.specs.Overlap.{Owner, Happens, ticket_in, out_after}
use Rattle.fresh_runs.specs.OverlapState.{Leads, Either, found_after}
use Rattle.fresh_runs.proofs.OverlapSteps.{walks_lead}
use Rattle.route_tree.specs.At.{tree_at}
use Rattle.route_tree.specs.Word.{tree_words}
use Rattle.route_job.specs.Rest.{ask_under, origin_under}
use Rattle.route_job.specs.Jobs.{server_of_pending, call_of}
use Rattle.core_commands.specs.declared.command.Command.{Command}
use Rattle.core_proxy.specs.declared.proxy.Core.{Core}
use Rattle.core_proxy.specs.Steps.{Resolves}
use Rattle.core_proxy.specs.CoreState.{bars_of, client_at, command_at, Beside, owner_by, MayComeOf, state_of, IsQueue, IsHeld, IsOnItsWay, ticket_by, FitsBeside, version_by}
use Rattle.core_client.specs.ClientState.{front_by, output_by, dropped_by}
use Rattle.core_commands.proofs.Commands.{some_command}
use Rattle.core_proxy.proofs.Commands.{by_number, to_come_after}
use Rattle.core_proxy.proofs.Clients.{on_its_way_kept}
use Rattle.core_proxy.proofs.Slots.{held_alike}
use Rattle.core_proxy.proofs.Came.{Came, none_then, other_then, single_then, below, unseen_then, has_result}
use Rattle.core_proxy.proofs.Ending.{idle_ticket}

module _ (old new : Core) (number : ℕ) (a b : Command) (outcome : Outcome) (r : Resolves old new number a b outcome) where
  abbrev ask : Ask
  ask = ask_under a.job.frames.items a.job.ask

  abbrev origin : Origin
  origin = origin_under a.job.frames.items OfClient

  abbrev server : ℕ
  server = server_of_pending a.job.pending

  abbrev event : End → Event
  event end = Calls number server ask origin end

  -- what stands beside the core then
  abbrev settled : End → Beside → Beside
  settled end beside =
      record beside {
        out = λ s. out_after (event end) s (beside.out s);
        holds = after_event (event end) beside.holds;
        found = found_after (event end) beside.holds beside.found;
        turn = beside.turn + 1;
      }

  abbrev out_came : Came old number a outcome
  out_came = record { was = r.was; waiting = r.waiting; calling = r.calling; fits = r.fits }

  tickets_then : (beside : Beside) → FitsBeside old beside → (end : End) → (s n : ℕ) → ticket_in (out_after (event end) s (beside.out s)) n ≡ ticket_by (command_at new n) n s
  tickets_then beside fits end s n =
      (elim (nat_eq number n) as (λ z. nat_eq number n ≡ z → ticket_in (out_after (event end) s (beside.out s)) n ≡ ticket_by (cond z (Some b) (command_at old n)) n s) [
        | true ↦ λ same. subst (λ m. ticket_in (out_after (event end) s (beside.out s)) m ≡ ticket_by (Some b) m s) (eqb-true number n same) (none_then old number a outcome out_came beside fits end s ∙ sym (idle_ticket number b s r.idle))
        | false ↦ λ differs. other_then old number a outcome out_came beside end s n differs ∙ fits.tickets s n
      ]) refl ∙ ap (λ o. ticket_by o n s) (sym (r.commands n))

  numbers_then : (beside : Beside) → FitsBeside old beside → (n : ℕ) → new.number < n → command_at new n ≡ None
  numbers_then beside fits n lt =
      let l = subst (λ m. m < n) r.number_is lt in
      r.commands n ∙ ap (λ z. cond z (Some b) (command_at old n)) (below old number a outcome out_came beside fits n l) ∙ fits.numbers n l

  owner_like : (n : ℕ) → option_map owner_by (command_at new n) ≡ option_map owner_by (command_at old n)
  owner_like n = ap (option_map owner_by) (r.commands n) ∙ (elim (nat_eq number n) as (λ z. nat_eq number n ≡ z → option_map owner_by (cond z (Some b) (command_at old n)) ≡ option_map owner_by (command_at old n)) [
    | true ↦ λ same. ap Some r.owner ∙ ap (option_map owner_by) (sym r.was ∙ ap (command_at old) (eqb-true number n same))
    | false ↦ λ differs. refl
  ]) refl

  came : (end : End) → outcome ≡ outcome_of end → (calls : List Call) (reply : Answer) (from : Option ℕ) → MayComeOf (Some b) calls reply from → MayComeOf (command_at old number) (record { server = server; ask = ask; origin = origin; outcome = outcome_of end } ∷ calls) reply from
  came end is calls reply from l =
      subst (λ o. MayComeOf (command_at old number) (record { server = server; ask = ask; origin = origin; outcome = o } ∷ calls) reply from) is
      (subst (λ o. MayComeOf o (call_of a.job outcome ∷ calls) reply from) (sym r.was) ((r.rest calls (record { reply = reply; from = from })).0 l))

  to_come_like : (end : End) → outcome ≡ outcome_of end → (n : ℕ) (calls : List Call) (reply : Answer) (from : Option ℕ) → MayComeOf (command_at new n) calls reply from
      → Either (nat_eq number n) (MayComeOf (command_at old n) (record { server = server; ask = ask; origin = origin; outcome = outcome_of end } ∷ calls) reply from) (MayComeOf (command_at old n) calls reply from)
  to_come_like end is n calls reply from l =
      (elim (nat_eq number n) as (λ z. nat_eq number n ≡ z → MayComeOf (cond z (Some b) (command_at old n)) calls reply from → Either z (MayComeOf (command_at old n) (record { server = server; ask = ask; origin = origin; outcome = outcome_of end } ∷ calls) reply from) (MayComeOf (command_at old n) calls reply from)) [
        | true ↦ λ same l. subst (λ m. MayComeOf (command_at old m) (record { server = server; ask = ask; origin = origin; outcome = outcome_of end } ∷ calls) reply from) (eqb-true number n same) (came end is calls reply from l)
        | false ↦ λ differs l. l
      ]) refl (subst (λ o. MayComeOf o calls reply from) (r.commands n) l)

  held_still : (beside : Beside) → FitsBeside old beside → (n : ℕ) (command : Command) → command_at new n ≡ Some command → IsHeld n command (client_at old command.client) (beside.queue command.client)
  held_still beside fits =
      by_number old new number (Some b) r.commands (λ n command. IsHeld n command (client_at old command.client) (beside.queue command.client))
      (λ command e. subst (λ (c : Command). IsHeld number c (client_at old c.client) (beside.queue c.client)) (some_command e) (subst (λ c. IsHeld number b (client_at old c) (beside.queue c)) (sym (ap (λ (o : Owner). o.client) r.owner)) (held_alike number a b (client_at old a.client) (beside.queue a.client) (ap (λ (o : Owner). o.ask) r.owner) (fits.held number a r.was))))
      (λ n command _ e. fits.held n command e)

  on_its_way_still : (beside : Beside) → FitsBeside old beside → (n : ℕ) (command : Command) → command_at new n ≡ Some command → IsOnItsWay old.limits.sharing (beside.at n command.ask.key) command
  on_its_way_still beside fits =
      let same : b.ask ≡ a.ask = ap (λ (o : Owner). o.ask) r.owner in
      by_number old new number (Some b) r.commands (λ n command. IsOnItsWay old.limits.sharing (beside.at n command.ask.key) command)
      (λ command e. subst (λ (c : Command). IsOnItsWay old.limits.sharing (beside.at number c.ask.key) c) (some_command e) (subst (λ (k : Ask). IsOnItsWay old.limits.sharing (beside.at number k.key) b) (sym same) (to_come_after old.limits.sharing (beside.at number a.ask.key) a (fits.to_come number a r.was) r.calling b outcome r.fits same r.claim r.rest)))
      (λ n command _ e. fits.to_come n command e)

  -- what stands beside the core without that call
  pub still_stands : (beside : Beside) (end : End) → FitsBeside old beside → FitsBeside new (settled end beside)
  still_stands beside end fits = record {
    queues = λ c. subst (λ o. IsQueue o (beside.queue c)) (sym (r.clients c)) (fits.queues c);
    held = λ n command e. subst (λ o. IsHeld n command o (beside.queue command.client)) (sym (r.clients command.client)) (held_still beside fits n command e);
    numbered = λ c n lt. fits.numbered c n (subst (λ m. m < n) r.number_is lt);
    to_come = λ n command e. on_its_way_kept old new (beside.at n command.ask.key) command r.limits (on_its_way_still beside fits n command e);
    tickets = tickets_then beside fits end;
    single = single_then old number a outcome out_came beside fits end;
    numbers = numbers_then beside fits;
    unseen = λ n lt. unseen_then old number a outcome out_came beside fits end n (subst (λ m. m < n) r.number_is lt);
    trees = λ n key lt. fits.trees n key (subst (λ m. m < n) r.number_is lt) ∙ ap (λ t. tree_at t key) (sym r.tree);
  }

  -- the call has its result, where what the server held agrees with that
  pub settles :
      (beside : Beside) (end : End) → FitsBeside old beside → outcome ≡ outcome_of end → EndsIn (beside.holds server ask.key) (beside.found number) number ask origin end
      → FitsBeside new (settled end beside) × Leads (tree_words beside.at) (bars_of old beside) (state_of old beside) (Happens (event end) ∷ []) (state_of new (settled end beside))
  settles beside end fits is ends = (
    still_stands beside end fits,
    walks_lead (tree_words beside.at) (bars_of old beside) (state_of old beside) (state_of new (settled end beside)) (Happens (event end) ∷ []) (record {
      may = (
        has_result old number a outcome out_came beside end fits is ends,
        tt,
      );
      like = record {
        front = λ c. ap front_by (r.clients c);
        queue = λ c. refl;
        output = λ c. ap output_by (r.clients c);
        dropped = λ c. ap dropped_by (r.clients c);
        number = r.number_is;
        owner = owner_like;
        to_come = λ n o e calls reply from l. to_come_like end is n calls reply from l;
        out = λ s. refl;
        holds = λ s k. refl;
        found = λ n o e. refl;
        turn = refl;
        version = ap version_by r.limits;
      };
    }),
  )
