use Rattle.std.proofs.Common.{◌≡◌, ◌-◌, true, cond, nat_eq, Some, sym, ap, ◌∙◌, subst}
use Rattle.std.specs.Prelude.{slice_index_or}
use Rattle.indexmap.specs.IndexMap.{get, with_value_at}
use Rattle.route_job.specs.Jobs.{server_of_pending}
use Rattle.core_commands.specs.declared.command.Command.{Command}
use Rattle.core_commands.specs.Out.{has_call_out}
use Rattle.core_commands.specs.Counts.{SetsCountAt}
use Rattle.core_commands.proofs.ByPlace.{through_place}
use Rattle.core_commands.proofs.Commands.{some_command}
use Rattle.core_commands.proofs.Counting.{written, counted_taken}
use Rattle.core_commands.proofs.command_table.CommandTable.take.Goals as goal

pub invariant_of-self : goal.invariant_of-self
invariant_of-self c = λ e.
    let a = c.in-Some-get_index_mut.command.now in
    let b = c.take-taken.new.self in
    let table = c.self.inside in
    let place = c.in-Some.place in
    let new = with_value_at table.by_number place b in
    let found = c.in-Some-get_index_mut.ensures.value ∙ c.in-Some.ensures.value in
    let through = through_place c.args.number table.by_number place a b c.in-Some-get_index_mut.ensures.unique (sym c.in-Some.ensures.index) (sym found) in
    let on = c.both-self-inside.ensures e in
    let counts = c.both.ensures on.1 in
    let same : c.requires.out.0 ≡ a = some_command (sym (found ∙ ap (λ m. get nat_eq m c.args.number) c.self.view_is ∙ c.requires.out.1)) in
    let server : c.number.result ≡ server_of_pending a.job.pending = c.number.ensures ∙ c.server-server.ensures in
    counted_taken table.by_number new table.clearing table.copying table.at_server table.waiting c.args.number a (c.self.invariant on.0) b (sym found) through.0
    c.uncount_one-was_out.new.self c.count_one-waits.new.self c.take-taken.ensures.ask c.take-taken.ensures.claim (subst (λ (d : Command). has_call_out d ≡ true) same c.requires.out.2) c.take-taken.ensures.idle
    (subst (λ s. SetsCountAt s (slice_index_or table.at_server s 0 - 1) table.at_server c.uncount_one-was_out.new.self) server (c.uncount_one-was_out.ensures counts.0)) (c.count_one-waits.ensures counts.1)

pub returns : goal.returns
returns c =
    let a = c.in-Some-get_index_mut.command.now in
    let b = c.take-taken.new.self in
    let table = c.self.inside in
    let place = c.in-Some.place in
    let new = with_value_at table.by_number place b in
    let found = c.in-Some-get_index_mut.ensures.value ∙ c.in-Some.ensures.value in
    let through = through_place c.args.number table.by_number place a b c.in-Some-get_index_mut.ensures.unique (sym c.in-Some.ensures.index) (sym found) in
    record {
      before = a;
      after = b;
      was = sym (found ∙ ap (λ m. get nat_eq m c.args.number) c.self.view_is);
      replaces = λ n. written table.by_number new c.args.number a b (sym found) through n ∙ (λ i. cond (nat_eq c.args.number n) (Some b) (get nat_eq (c.self.view_is i) n));
      takes = c.take-taken.ensures.ok;
    }
