-- A call of the core is out in each log that leads there.
use Rattle.std.proofs.Common.{◌≡◌, ℕ, Bool, true, cond, List, Option, Some, None, sym, ap, ◌∙◌, nat_eq}
use Rattle.mc_types.specs.declared.ask.Ask.{Ask}
use Rattle.mc_types.specs.declared.call.Origin.{Origin}
use Rattle.mc_types.specs.declared.call.Origin.TheVariants.{Client as OfClient}
use Rattle.mc_types.specs.Items.{Item}
use Rattle.fresh_runs.specs.Overlap.{Entry, Ticket as LogTicket, ticket_in, out_of}
use Rattle.script_events.proofs.Places.{same}
use Rattle.route_tree.specs.Route.{Route}
use Rattle.route_job.specs.Jobs.{server_of_pending}
use Rattle.route_job.specs.Rest.{ask_under, origin_under}
use Rattle.core_commands.specs.declared.command.Command.{Command}
use Rattle.core_proxy.specs.CoreState.{dialect, has_call_out, ticket_by}
use Rattle.core_proxy.specs.Settles.{IsCalled}
use Rattle.script_run.specs.Standing.{Kept, LogStands}

-- the ticket of a command at the server of its call
ticket_is :
    (a : Command) (number server : ℕ) (ask : Ask) (origin : Origin) → has_call_out a ≡ true → server ≡ server_of_pending a.job.pending → ask ≡ ask_under a.job.frames.items a.job.ask → origin ≡ origin_under a.job.frames.items OfClient
    → ticket_by (Some a) number server ≡ Some (record { number = number; ask = ask; origin = origin })
ticket_is a number server ask origin out server_is ask_is origin_is =
    let own : LogTicket = record { number = number; ask = ask_under a.job.frames.items a.job.ask; origin = origin_under a.job.frames.items OfClient } in
    ap (λ (b : Bool). cond b (cond (nat_eq (server_of_pending a.job.pending) server) (Some own) None) None) out
    ∙ ap (λ (s : ℕ). cond (nat_eq s server) (Some own) None) (sym server_is)
    ∙ ap (λ (b : Bool). cond b (Some own) None) (same server)
    ∙ ap (λ (x : Ask). Some (record { number = number; ask = x; origin = own.origin })) (sym ask_is)
    ∙ ap (λ (o : Origin). Some (record { number = number; ask = ask; origin = o })) (sym origin_is)

pub called_is_out :
    (opening : ℕ → List ℕ → Option Item) (tree : ℕ → Route) (log : List (Entry dialect)) (k : Kept) → LogStands opening tree log k → (number server : ℕ) (ask : Ask) (origin : Origin) → IsCalled k.core number server ask origin
    → ticket_in (out_of log server) number ≡ Some (record { number = number; ask = ask; origin = origin })
called_is_out opening tree log k s number server ask origin c =
    ap (λ (ts : List LogTicket). ticket_in ts number) (sym (s.leads.out server)) ∙ s.fits.tickets server number ∙ ap (λ (o : Option Command). ticket_by o number server) c.was
    ∙ ticket_is c.command number server ask origin c.is.out c.is.server_is c.is.ask_is c.is.origin_is
