-- A call that the core gave out is one that is out.
use Rattle.std.proofs.Common.{◌≡◌, ℕ, ◌<◌, Bool, true, false, cond, List, [], ◌∷◌, ◌++◌, Option, Some, None, option_map, refl, sym, ap, ◌∙◌, subst, nat_eq}
use Rattle.std.proofs.lemmas.Bool.{eqb-true, eq-eqb}
use Rattle.mc_types.specs.declared.ask.Ask.{Ask}
use Rattle.mc_types.specs.declared.answer.Answer.{Answer}
use Rattle.mc_types.specs.declared.call.Origin.{Origin}
use Rattle.mc_types.specs.declared.call.Origin.TheVariants.{Client as OfClient}
use Rattle.fresh_runs.specs.Calls.{Call}
use Rattle.fresh_runs.specs.Overlap.{Ticket, Sends, ticket_in, without_ticket}
use Rattle.fresh_runs.proofs.OverlapSteps.{walks_lead}
use Rattle.route_tree.specs.At.{tree_at}
use Rattle.route_tree.specs.Word.{tree_words}
use Rattle.route_job.specs.Rest.{ask_under, origin_under}
use Rattle.route_job.specs.Jobs.{server_of_pending}
use Rattle.core_commands.specs.declared.command.Command.{Command}
use Rattle.core_proxy.specs.declared.proxy.Core.{Core}
use Rattle.core_proxy.specs.Steps.{SendsOut}
use Rattle.core_proxy.specs.CoreState.{bars_of, client_at, command_at, Beside, owner_by, MayComeOf, state_of, is_call, IsQueue, IsHeld, IsOnItsWay, ticket_by, FitsBeside, GoesByOne, version_by}
use Rattle.core_client.specs.ClientState.{front_by, output_by, dropped_by}
use Rattle.core_commands.proofs.Commands.{some_command, is_call_true}
use Rattle.core_proxy.proofs.Commands.{by_number, call_key}
use Rattle.core_proxy.proofs.Clients.{on_its_way_kept}
use Rattle.core_proxy.proofs.Slots.{held_alike}
use Rattle.core_proxy.proofs.Tickets.{some_none, more_other, more_own, more_single}

module _ (old new : Core) (number : ℕ) (a : Command) (r : SendsOut old new number a) where
  abbrev ask : Ask
  ask = ask_under a.job.frames.items a.job.ask

  abbrev origin : Origin
  origin = origin_under a.job.frames.items OfClient

  abbrev server : ℕ
  server = server_of_pending a.job.pending

  abbrev ticket : Ticket
  ticket = record { number = number; ask = ask; origin = origin }

  none_out : (beside : Beside) → FitsBeside old beside → (s : ℕ) → ticket_in (beside.out s) number ≡ None
  none_out beside fits s = fits.tickets s number ∙ ap (λ o. ticket_by o number s) r.was ∙ ap (λ b. cond (cond b (is_call a.job.pending) false) (cond (nat_eq server s) (Some ticket) None) None) r.idle

  abbrev out_then : Beside → ℕ → List Ticket
  out_then beside s = cond (nat_eq server s) (beside.out s ++ ticket ∷ []) (beside.out s)

  tickets_then : (beside : Beside) → FitsBeside old beside → (s n : ℕ) → ticket_in (out_then beside s) n ≡ ticket_by (command_at new n) n s
  tickets_then beside fits s n =
      (elim (nat_eq number n) as (λ b. nat_eq number n ≡ b → ticket_in (out_then beside s) n ≡ ticket_by (cond b (Some (record a { is_out = true })) (command_at old n)) n s) [
        | true ↦ λ same. subst (λ m. ticket_in (out_then beside s) m ≡ cond (is_call a.job.pending) (cond (nat_eq server s) (Some (record { number = m; ask = ask; origin = origin })) None) None) (eqb-true number n same)
            (own (nat_eq server s) ∙ sym (ap (λ z. cond z (cond (nat_eq server s) (Some ticket) None) None) (is_call_true a.job.pending r.calling)))
        | false ↦ λ differs. other (nat_eq server s) differs ∙ fits.tickets s n
      ]) refl ∙ ap (λ o. ticket_by o n s) (sym (r.commands n))
    where
      own : (b : Bool) → ticket_in (cond b (beside.out s ++ ticket ∷ []) (beside.out s)) number ≡ cond b (Some ticket) None
      own true = more_own (beside.out s) ticket number (eq-eqb number number refl) (none_out beside fits s)
      own false = none_out beside fits s

      other : (b : Bool) → nat_eq number n ≡ false → ticket_in (cond b (beside.out s ++ ticket ∷ []) (beside.out s)) n ≡ ticket_in (beside.out s) n
      other true differs = more_other (beside.out s) ticket n differs
      other false differs = refl

  single_then : (beside : Beside) → FitsBeside old beside → (s n : ℕ) → ticket_in (without_ticket n (out_then beside s)) n ≡ None
  single_then beside fits s n = by (nat_eq server s)
    where
      by : (b : Bool) → ticket_in (without_ticket n (cond b (beside.out s ++ ticket ∷ []) (beside.out s))) n ≡ None
      by true = more_single (beside.out s) ticket n (fits.single s n) (λ same. subst (λ m. ticket_in (beside.out s) m ≡ None) (eqb-true number n same) (none_out beside fits s))
      by false = fits.single s n

  numbers_then : (beside : Beside) → FitsBeside old beside → (n : ℕ) → new.number < n → command_at new n ≡ None
  numbers_then beside fits n lt =
      r.commands n ∙ (elim (nat_eq number n) as (λ b. nat_eq number n ≡ b → cond b (Some (record a { is_out = true })) (command_at old n) ≡ None) [
        | true ↦ λ same. some_none a (sym r.was ∙ ap (command_at old) (eqb-true number n same) ∙ fits.numbers n (subst (λ m. m < n) r.number_is lt))
        | false ↦ λ differs. fits.numbers n (subst (λ m. m < n) r.number_is lt)
      ]) refl

  held_still : (beside : Beside) → FitsBeside old beside → (n : ℕ) (command : Command) → command_at new n ≡ Some command → IsHeld n command (client_at old command.client) (beside.queue command.client)
  held_still beside fits =
      by_number old new number (Some (record a { is_out = true })) r.commands (λ n command. IsHeld n command (client_at old command.client) (beside.queue command.client))
      (λ command e. subst (λ (c : Command). IsHeld number c (client_at old c.client) (beside.queue c.client)) (some_command e) (held_alike number a (record a { is_out = true }) (client_at old a.client) (beside.queue a.client) refl (fits.held number a r.was)))
      (λ n command _ e. fits.held n command e)

  on_its_way_still : (beside : Beside) → FitsBeside old beside → (n : ℕ) (command : Command) → command_at new n ≡ Some command → IsOnItsWay old.limits.sharing (beside.at n command.ask.key) command
  on_its_way_still beside fits =
      by_number old new number (Some (record a { is_out = true })) r.commands (λ n command. IsOnItsWay old.limits.sharing (beside.at n command.ask.key) command)
      (λ command e. subst (λ (c : Command). IsOnItsWay old.limits.sharing (beside.at number c.ask.key) c) (some_command e) (let l = fits.to_come number a r.was in record { claim = l.claim; good = l.good; before = l.before; rest = l.rest; some = l.some }))
      (λ n command _ e. fits.to_come n command e)

  -- the call is out
  pub sends : GoesByOne old (Sends number server ask origin) new
  sends = λ beside fits.
      let beside' : Beside = record beside { out = out_then beside } in (
        beside',
        Sends number server ask origin ∷ [],
        record {
          queues = λ c. subst (λ o. IsQueue o (beside.queue c)) (sym (r.clients c)) (fits.queues c);
          held = λ n command e. subst (λ o. IsHeld n command o (beside.queue command.client)) (sym (r.clients command.client)) (held_still beside fits n command e);
          numbered = λ c n lt. fits.numbered c n (subst (λ m. m < n) r.number_is lt);
          to_come = λ n command e. on_its_way_kept old new (beside.at n command.ask.key) command r.limits (on_its_way_still beside fits n command e);
          tickets = tickets_then beside fits;
          single = single_then beside fits;
          numbers = numbers_then beside fits;
          unseen = λ n lt. fits.unseen n (subst (λ m. m < n) r.number_is lt);
          trees = λ n key lt. fits.trees n key (subst (λ m. m < n) r.number_is lt) ∙ ap (λ t. tree_at t key) (sym r.tree);
        },
        record { at = refl; holds = refl; found = refl; turn = refl },
        refl,
        walks_lead (tree_words beside.at) (bars_of old beside) (state_of old beside) (state_of new beside') (Sends number server ask origin ∷ []) (record {
          may = (((owner_by a, ap (option_map owner_by) r.was, call_key old.limits.sharing (beside.at number a.ask.key) a (fits.to_come number a r.was) r.calling), none_out beside fits), tt);
          like = record {
            front = λ c. ap front_by (r.clients c);
            queue = λ c. refl;
            output = λ c. ap output_by (r.clients c);
            dropped = λ c. ap dropped_by (r.clients c);
            number = r.number_is;
            owner = λ n. owner_like n;
            to_come = λ n o e calls reply from l. to_come_like n calls reply from l;
            out = λ s. refl;
            holds = λ s k. refl;
            found = λ n o e. refl;
            turn = refl;
            version = ap version_by r.limits;
          };
        }),
        r.limits,
        λ s. refl,
      )
    where
      owner_like : (n : ℕ) → option_map owner_by (command_at new n) ≡ option_map owner_by (command_at old n)
      owner_like n = ap (option_map owner_by) (r.commands n) ∙ (elim (nat_eq number n) as (λ b. nat_eq number n ≡ b → option_map owner_by (cond b (Some (record a { is_out = true })) (command_at old n)) ≡ option_map owner_by (command_at old n)) [
        | true ↦ λ same. ap (option_map owner_by) (sym r.was ∙ ap (command_at old) (eqb-true number n same))
        | false ↦ λ differs. refl
      ]) refl

      to_come_like : (n : ℕ) (calls : List Call) (reply : Answer) (from : Option ℕ) → MayComeOf (command_at new n) calls reply from → MayComeOf (command_at old n) calls reply from
      to_come_like n calls reply from l =
          (elim (nat_eq number n) as (λ b. nat_eq number n ≡ b → MayComeOf (cond b (Some (record a { is_out = true })) (command_at old n)) calls reply from → MayComeOf (command_at old n) calls reply from) [
            | true ↦ λ same l. subst (λ o. MayComeOf o calls reply from) (sym r.was ∙ ap (command_at old) (eqb-true number n same)) l
            | false ↦ λ differs l. l
          ]) refl (subst (λ o. MayComeOf o calls reply from) (r.commands n) l)
