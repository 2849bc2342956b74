use Rattle.std.proofs.Common.{◌-◌, nat_eq, sym, subst, ◌∙◌}
use Rattle.std.specs.Cmp.Lexicographic.{pointwise}
use Rattle.std.specs.Map.{count_at}
use Rattle.std.proofs.lemmas.Bool.{not-true}
use Rattle.indexmap.specs.IndexMap.{get}
use Rattle.core_commands.specs.Counts.{SetsCountWhere}
use Rattle.core_commands.proofs.Counting.{counted_gone}
use Rattle.core_commands.proofs.command_table.CommandTable.remove.Goals as goal

pub invariant_of-self-2 : goal.invariant_of-self-2
invariant_of-self-2 c = λ e.
    let a = c.in_ok-command.command in
    let table = c.self.inside in
    let on = c.both-self-inside.ensures e in
    let was = c.both.ensures on.0 in
    let those = c.both-3.ensures on.1 in
    let claims = c.both-2.ensures those.0 in
    counted_gone table.by_number c.take_out.new.commands table.clearing table.copying table.at_server table.waiting c.args.number a (c.self.invariant was.0) c.uncount_where-clears.new.counts c.uncount_where-copies.new.counts c.uncount_one-waited.new.self (sym c.in_ok-command.ensures.value)
    (sym c.has_call_out-is_idle.ensures ∙ not-true c.has_call_out-is_idle.result was.1) c.take_out.ensures.entries
    (subst (λ k. SetsCountWhere a.claim.clears (pointwise nat_eq) k (count_at (get (pointwise nat_eq) table.clearing) k - 1) table.clearing c.uncount_where-clears.new.counts) c.key.ensures (c.uncount_where-clears.ensures claims.0))
    (subst (λ k. SetsCountWhere a.claim.copies (pointwise nat_eq) k (count_at (get (pointwise nat_eq) table.copying) k - 1) table.copying c.uncount_where-copies.new.counts) c.key-2.ensures (c.uncount_where-copies.ensures claims.1))
    (c.uncount_one-waited.ensures those.1)
