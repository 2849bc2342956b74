-- A core that is fresh over connections in order is so over those of the walk that led to it.
use Rattle.std.proofs.Common.{◌≡◌, ℕ, Bool, true, false, if◌then◌else◌, List, [], ◌∷◌, ◌++◌, Option, Some, None, option_map, refl, sym, ap, ◌∙◌, subst, nat_eq, append_assoc}
use Rattle.std.proofs.lemmas.Bool.{eqb-true}
use Rattle.mc_types.specs.declared.ask.Ask.{Ask}
use Rattle.mc_types.specs.declared.call.Origin.{Origin}
use Rattle.mc_types.specs.declared.call.Origin.TheVariants.{Client}
use Rattle.mc_types.specs.declared.call.Outcome.{Outcome}
use Rattle.mc_types.specs.Items.{Item}
use Rattle.fresh_runs.specs.Calls.{Call}
use Rattle.fresh_runs.specs.Single.{FitsOutcome}
use Rattle.fresh_runs.specs.Run.{calls_so_far, under_way, IsFront}
use Rattle.fresh_runs.specs.Overlap.{Ticket, Entry, Follows, run_of, out_of, ticket_in}
use Rattle.fresh_runs.proofs.OverlapRuns.{runs}
use Rattle.fresh_runs.proofs.OverlapSteps.{owner_way}
use Rattle.fresh_runs.proofs.Runs.{some_ask}
use Rattle.route_tree.specs.At.{tree_at}
use Rattle.route_tree.specs.Plan.{Plan}
use Rattle.route_tree.specs.Word.{tree_words}
use Rattle.route_job.specs.Jobs.{server_of_pending, call_of}
use Rattle.route_job.specs.Rest.{ask_under, origin_under}
use Rattle.core_commands.specs.declared.command.Command.{Command}
use Rattle.core_commands.specs.Begun.{owner_by}
use Rattle.core_commands.specs.Out.{has_call_out}
use Rattle.core_proxy.specs.Claims.{bars_by}
use Rattle.core_proxy.specs.CoreState.{dialect, command_at, bars_of, ticket_by, MayComeOf, version_by}
use Rattle.core_proxy.specs.CallsStay.{called_by}
use Rattle.core_proxy.proofs.Commands.{goes_on}
use Rattle.core_accepted.specs.declared.served.ServedCore.{ServedCore}
use Rattle.core_accepted.specs.Logs.{MayHaveLed}
use Rattle.core_accepted.specs.Late.{Moment, seen, begun_late, IsFreshBy, WasOver}
use Rattle.core_accepted.specs.Pipes.{moments_of}
use Rattle.core_accepted.specs.Parts.{Own, PipesInOrder}
use Rattle.core_accepted.specs.Rollout.{words_by}
use Rattle.core_accepted.specs.LateCores.{only_line, DoesAsCore}
use Rattle.core_accepted.proofs.Late.{way_begun}
use Rattle.core_accepted.proofs.Parts.{part_laws}
use Rattle.core_accepted.proofs.LateCores.{own_part}
use Rattle.serve_links.specs.Called.{TellsCallsOut}
use Rattle.serve_links.specs.Talks.{IsOrderly}
use Rattle.serve_links.specs.InOrder.{Move, OfProxy, OfServer, walk_of, log_of, moments_in, as_pipes, CallIsAwaited, LeadAlong, HappensAlong, WalksAreFreshLate}
use Rattle.serve_links.proofs.InOrder.{none_some, is_calling, call_way, led_along, connections_are_in_order}
use Rattle.serve_links.proofs.Alike.{OutWay, OutWays, does_own}

same_ticket : (x y : Ticket) → Some x ≡ Some y → x ≡ y
same_ticket x y e = cc

ticket_if : (out here : Bool) (x t : Ticket) → (if out then (if here then Some x else None) else None) ≡ Some t → (out ≡ true) × (here ≡ true) × (x ≡ t)
ticket_if true true x t e = (refl, refl, same_ticket x t e)
ticket_if true false x t e = absurd (none_some e)
ticket_if false here x t e = absurd (none_some e)

-- the ticket of a command whose call is out
module _ (a : Command) (n s : ℕ) (ticket : Ticket) (is : ticket_by (Some a) n s ≡ Some ticket) where
  ticket_parts : (has_call_out a ≡ true) × (nat_eq (server_of_pending a.job.pending) s ≡ true) × (record { number = n; ask = ask_under a.job.frames.items a.job.ask; origin = origin_under a.job.frames.items Client } ≡ ticket)
  ticket_parts =
      ticket_if (has_call_out a) (nat_eq (server_of_pending a.job.pending) s) (record { number = n; ask = ask_under a.job.frames.items a.job.ask; origin = origin_under a.job.frames.items Client }) ticket is

  server_is : server_of_pending a.job.pending ≡ s
  server_is = eqb-true (server_of_pending a.job.pending) s ticket_parts.1

  ask_is : ask_under a.job.frames.items a.job.ask ≡ ticket.ask
  ask_is = ap (λ (t : Ticket). t.ask) ticket_parts.2

  origin_is : origin_under a.job.frames.items Client ≡ ticket.origin
  origin_is = ap (λ (t : Ticket). t.origin) ticket_parts.2

  pair_is : called_by (Some a) ≡ Some (s, ticket.ask)
  pair_is =
      ap (λ b. if b then Some (server_of_pending a.job.pending, ask_under a.job.frames.items a.job.ask) else None) ticket_parts.0
      ∙ ap (λ i. Some (i, ask_under a.job.frames.items a.job.ask)) server_is
      ∙ ap (λ (x : Ask). Some (s, x)) ask_is

call_by_parts : (s t : ℕ) (a b : Ask) (o p : Origin) (outcome : Outcome) → s ≡ t → a ≡ b → o ≡ p → ◌≡◌ {A = Call} (record { server = s; ask = a; origin = o; outcome = outcome }) (record { server = t; ask = b; origin = p; outcome = outcome })
call_by_parts s t a b o p outcome e f g = cc

module _ (served : ServedCore) (believes : ℕ → List ℕ → Option Item) (past : List (Entry dialect)) (led : MayHaveLed believes past served) where
  ticket_is : (s n : ℕ) (ticket : Ticket) → ticket_in (out_of past s) n ≡ Some ticket → ticket_by (command_at served.core n) n s ≡ Some ticket
  ticket_is s n ticket out = sym (led.fits.tickets s n) ∙ ap (λ (l : List Ticket). ticket_in l n) (led.leads.out s) ∙ out

  -- a call that is out is of a command under way
  out_way : OutWay past
  out_way s n ticket out = by (command_at served.core n) refl
    where
      by : (o : Option Command) → command_at served.core n ≡ o → (client : Ask) × (under_way (run_of past) n ≡ Some client) × (ticket.ask.key ≡ client.key)
      by None e = absurd (none_some (sym (ap (λ (o : Option Command). ticket_by o n s) e) ∙ ticket_is s n ticket out))
      by (Some a) e =
          call_way served believes past led n s ticket.ask
          (ap called_by e ∙ pair_is a n s ticket (sym (ap (λ (o : Option Command). ticket_by o n s) e) ∙ ticket_is s n ticket out))

  -- and a word goes on by what it ended with
  front_out : (n : ℕ) (call : Call) (client : Ask) → CallIsAwaited past n call → begun_late (run_of past) n ≡ Some client → IsFront (words_by led.tree) n client (calls_so_far (run_of past) n ++ call ∷ [])
  front_out n call client awaited is = by (command_at served.core n) refl
    where
      ticket : Ticket
      ticket = record { number = n; ask = call.ask; origin = call.origin }

      by : (o : Option Command) → command_at served.core n ≡ o → IsFront (words_by led.tree) n client (calls_so_far (run_of past) n ++ call ∷ [])
      by None e = absurd (none_some (sym (ap (λ (o : Option Command). ticket_by o n call.server) e) ∙ ticket_is call.server n ticket awaited.out))
      by (Some a) e =
          let its = sym (ap (λ (o : Option Command). ticket_by o n call.server) e) ∙ ticket_is call.server n ticket awaited.out in
          let parts = ticket_parts a n call.server ticket its in
          let ask = ask_is a n call.server ticket its in
          let next =
          goes_on served.core.limits.sharing (led.beside.at n a.ask.key) a (led.fits.to_come n a e) (is_calling a.is_out a.job.pending parts.0) call.outcome
          (subst (λ (x : Ask). FitsOutcome x call.outcome) (sym ask) awaited.fits) in
          let same : call_of a.job call.outcome ≡ call =
          call_by_parts (server_of_pending a.job.pending) call.server (ask_under a.job.frames.items a.job.ask) call.ask (origin_under a.job.frames.items Client) call.origin call.outcome
          (server_is a n call.server ticket its) ask (origin_is a n call.server ticket its) in
          let word =
          led.leads.to_come n (owner_by a) (ap (option_map owner_by) e) (call ∷ next.0) next.1.reply next.1.from
          (subst (λ (o : Option Command). MayComeOf o (call ∷ next.0) next.1.reply next.1.from) (sym e) (subst (λ (c : Call). MayComeOf (Some a) (c ∷ next.0) next.1.reply next.1.from) same next.2)) in
          let plain =
          subst (λ (at : ℕ → List ℕ → Plan). tree_words at n a.ask (calls_so_far (run_of past) n ++ call ∷ next.0) next.1.reply next.1.from) led.plain word in
          let begins = way_begun (run_of past) n a.ask (owner_way (tree_words led.beside.at) (bars_of served.core led.beside) believes (version_by served.core.limits) past led.leads.follows n (owner_by a) (sym (led.leads.owner n) ∙ ap (option_map owner_by) e)) in
          let client_is : a.ask ≡ client = some_ask a.ask client (sym begins ∙ is) in
          subst (λ (x : Ask). IsFront (words_by led.tree) n x (calls_so_far (run_of past) n ++ call ∷ [])) client_is
          (next.0, next.1.reply, next.1.from, subst (λ (l : List Call). words_by led.tree n a.ask l next.1.reply next.1.from) (sym (append_assoc (calls_so_far (run_of past) n) (call ∷ []) next.0)) plain)

out_ways : (first last : ServedCore) (believes : ℕ → List ℕ → Option Item) (moves : List Move) → LeadAlong believes moves first last → OutWays moves
out_ways first last believes [] leads = out_way last believes [] leads.1
out_ways first last believes (OfProxy step entries ∷ past) leads = (out_way last believes (entries ++ log_of past) leads.3, out_ways first leads.0 believes past leads.1)
out_ways first last believes (OfServer place moment ∷ past) leads = out_ways first last believes past leads

-- what the core does by what happens along its walk, as over one connection to each server
pub does_along :
    (first last : ServedCore) → TellsCallsOut [] first → (opening : ℕ → List ℕ → Option Item) (moves : List Move) → IsOrderly (walk_of moves) → HappensAlong opening moves first last
    → (moments_of (as_pipes moves) ≡ moments_in moves) × DoesAsCore last opening (moments_of (as_pipes moves)) × PipesInOrder only_line (as_pipes moves)
does_along first last tells opening moves orderly along =
    let order = connections_are_in_order first last along.believes moves tells along.leads orderly along.applied in
    let past = log_of moves in
    let led = led_along first along.believes tells moves last along.leads in
    let at : ℕ → List ℕ → Plan = λ n key. tree_at (led.tree n) key in
    let rule = last.core.limits.sharing in
    let words = words_by led.tree in
    let Bars : ℕ → Ask → ℕ → Ask → Type 0 = bars_by rule at in
    let version = version_by last.core.limits in
    let follows : Follows words Bars along.believes version past = subst (λ (at : ℕ → List ℕ → Plan). Follows (tree_words at) (bars_by rule at) along.believes version past) led.plain led.leads.follows in
    let own : Own words Bars (seen (moments_in moves)) =
    does_own words Bars along.believes version moves follows ((part_laws words Bars).own along.believes (run_of past) (runs dialect words Bars along.believes version past follows)) along.applied along.alike
    (out_ways first last along.believes moves along.leads) (front_out last along.believes past led) in
    let core : DoesAsCore last opening (moments_in moves) = record { believes = along.believes; log = past; led = led; own = own_part words Bars (seen (moments_in moves)) own; serves = along.serves } in
    (order.0, subst (λ (l : List Moment). DoesAsCore last opening l) (sym order.0) core, order.1)

pub walks_are_fresh_late : WalksAreFreshLate
walks_are_fresh_late steps first last tells orderly opening fresh moves same along =
    let does = does_along first last tells opening moves (subst IsOrderly (sym same) orderly) along in
    subst (λ (l : List Moment). IsFreshBy opening WasOver l) does.0 (fresh (as_pipes moves) does.1 does.2)
