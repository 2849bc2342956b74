use Rattle.std.proofs.Common.{◌+◌, nat_eq, subst}
use Rattle.std.specs.Cmp.Lexicographic.{pointwise}
use Rattle.std.specs.Map.{count_at}
use Rattle.indexmap.specs.IndexMap.{get}
use Rattle.core_commands.specs.Counts.{SetsCountWhere}
use Rattle.core_commands.proofs.Counting.{counted_put}
use Rattle.core_commands.proofs.command_table.CommandTable.put.Goals as goal

pub invariant_of-self : goal.invariant_of-self
invariant_of-self c = λ e.
    let table = c.self.inside in
    let a = c.args.command in
    let on = c.both-self-inside.ensures e in
    let was = c.both.ensures on.0 in
    let those = c.both-3.ensures on.1 in
    let claims = c.both-2.ensures those.0 in
    counted_put table.by_number c.put_new-is_new.new.commands table.clearing table.copying table.at_server table.waiting c.args.number a (c.self.invariant was.0) c.count_where-clears.new.counts c.count_where-copies.new.counts c.count_one-waits.new.self c.requires.idle
    (c.put_new-is_new.ensures.last was.1)
    (subst (λ k. SetsCountWhere a.claim.clears (pointwise nat_eq) k (count_at (get (pointwise nat_eq) table.clearing) k + 1) table.clearing c.count_where-clears.new.counts) c.key.ensures (c.count_where-clears.ensures claims.0))
    (subst (λ k. SetsCountWhere a.claim.copies (pointwise nat_eq) k (count_at (get (pointwise nat_eq) table.copying) k + 1) table.copying c.count_where-copies.new.counts) c.key-2.ensures (c.count_where-copies.ensures claims.1))
    (c.count_one-waits.ensures those.1)
