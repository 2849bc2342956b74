use Rattle.std.proofs.Common.{◌≡◌, ◌+◌, ◌-◌, cond, nat_eq, Some, sym, ap, ◌∙◌, subst}
use Rattle.std.specs.Prelude.{slice_index_or}
use Rattle.std.specs.HashMap.{WritesThrough}
use Rattle.indexmap.specs.IndexMap.{get, with_value_at}
use Rattle.route_job.proofs.Jobs.{on_err}
use Rattle.route_job.specs.Jobs.{server_of_pending, IsCalling}
use Rattle.core_commands.specs.declared.command.Command.{Command}
use Rattle.core_commands.specs.Counts.{SetsCountAt, CountsCommands}
use Rattle.core_commands.proofs.ByPlace.{through_place}
use Rattle.core_commands.proofs.Commands.{some_command}
use Rattle.core_commands.proofs.Counting.{same_map, written, counted_sent}
use Rattle.core_commands.proofs.command_table.CommandTable.send.Goals as goal

pub invariant_of-self : goal.invariant_of-self
invariant_of-self c = λ on.
    let a = c.in-Some-get_index_mut.command.now in
    let x = c.send.new.self in
    let table = c.self.inside in
    let place = c.in-Some.place in
    let new = with_value_at table.by_number place x in
    let found = c.in-Some-get_index_mut.ensures.value ∙ c.in-Some.ensures.value in
    let through = through_place c.args.number table.by_number place a x c.in-Some-get_index_mut.ensures.unique (sym c.in-Some.ensures.index) (sym found) in
    let same_through = subst (λ w. WritesThrough nat_eq (nat_eq c.args.number) table.by_number w new) c.in_err-ticket.ensures.err through in
    subst (λ m. CountsCommands m table.clearing table.copying table.at_server table.waiting) (sym (same_map nat_eq (nat_eq c.args.number) table.by_number new a (sym found) same_through)) (c.self.invariant on)

pub returns-in_err-ticket-clause-err : goal.returns-in_err-ticket-clause-err
returns-in_err-ticket-clause-err c =
    let a = c.in-Some-get_index_mut.command.now in
    let x = c.send.new.self in
    let table = c.self.inside in
    let place = c.in-Some.place in
    let new = with_value_at table.by_number place x in
    let found = c.in-Some-get_index_mut.ensures.value ∙ c.in-Some.ensures.value in
    let through = through_place c.args.number table.by_number place a x c.in-Some-get_index_mut.ensures.unique (sym c.in-Some.ensures.index) (sym found) in
    let same_through = subst (λ w. WritesThrough nat_eq (nat_eq c.args.number) table.by_number w new) c.in_err-ticket.ensures.err through in
    on_err c.from_residual.result (same_map nat_eq (nat_eq c.args.number) table.by_number new a (sym found) same_through ∙ c.self.view_is)

pub invariant_of-self-2 : goal.invariant_of-self-2
invariant_of-self-2 c = λ e.
    let a = c.in-Some-get_index_mut.command.now in
    let x = c.send.new.self in
    let table = c.self.inside in
    let place = c.in-Some.place in
    let new = with_value_at table.by_number place x in
    let found = c.in-Some-get_index_mut.ensures.value ∙ c.in-Some.ensures.value in
    let through = through_place c.args.number table.by_number place a x c.in-Some-get_index_mut.ensures.unique (sym c.in-Some.ensures.index) (sym found) in
    let on = c.both-self-inside.ensures e in
    let counts = c.both.ensures on.1 in
    let same : a ≡ c.requires.command = some_command (found ∙ ap (λ m. get nat_eq m c.args.number) c.self.view_is ∙ c.requires.was) in
    let out = c.in_ok-ticket.ensures.out in
    let server : c.number.result ≡ server_of_pending a.job.pending = c.number.ensures ∙ c.in_ok-ticket.ensures.ticket.server_is in
    counted_sent table.by_number new table.clearing table.copying table.at_server table.waiting c.args.number a (c.self.invariant on.0) x (sym found) through.0
    c.count_one-is_out.new.self c.uncount_one-waited.new.self (ap (λ (b : Command). b.ask) out) (ap (λ (b : Command). b.claim) out) (ap (λ (b : Command). b.is_out) same ∙ c.requires.idle) (ap (λ (b : Command). b.is_out) out) (ap (λ (b : Command). b.job) out)
    (subst (λ (b : Command). IsCalling b.job) (sym same) c.requires.calling) (subst (λ s. SetsCountAt s (slice_index_or table.at_server s 0 + 1) table.at_server c.count_one-is_out.new.self) server (c.count_one-is_out.ensures counts.0))
    (subst (λ s. SetsCountAt s (slice_index_or table.waiting s 0 - 1) table.waiting c.uncount_one-waited.new.self) (ap (λ (b : Command). b.client) out) (c.uncount_one-waited.ensures counts.1))

pub returns-clause-ok : goal.returns-clause-ok
returns-clause-ok c =
    let a = c.in-Some-get_index_mut.command.now in
    let x = c.send.new.self in
    let table = c.self.inside in
    let place = c.in-Some.place in
    let new = with_value_at table.by_number place x in
    let found = c.in-Some-get_index_mut.ensures.value ∙ c.in-Some.ensures.value in
    let through = through_place c.args.number table.by_number place a x c.in-Some-get_index_mut.ensures.unique (sym c.in-Some.ensures.index) (sym found) in
    record {
      command = a;
      was = sym (found ∙ ap (λ m. get nat_eq m c.args.number) c.self.view_is);
      is = c.in_ok-ticket.ensures.ticket;
      out = λ n. written table.by_number new c.args.number a x (sym found) through n ∙ (λ i. cond (nat_eq c.args.number n) (Some (c.in_ok-ticket.ensures.out i)) (get nat_eq (c.self.view_is i) n));
    }
