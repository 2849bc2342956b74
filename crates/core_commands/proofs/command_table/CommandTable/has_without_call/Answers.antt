use Rattle.std.proofs.Common.{nat_lt, ap, ◌∙◌}
use Rattle.std.specs.List.{list_any}
use Rattle.indexmap.specs.IndexMap.{values}
use Rattle.core_commands.specs.Counts.{is_without_call}
use Rattle.core_commands.proofs.Counting.{any_counted}
use Rattle.core_commands.proofs.command_table.CommandTable.has_without_call.Goals as goal

pub returns-then-self : goal.returns-then-self
returns-then-self c =
    let client = c.args.client in
    ap (nat_lt 0) (c.count_of.ensures ∙ (c.self.invariant c.if-self.true).without client) ∙ any_counted (is_without_call client) (values c.self.inside.by_number) ∙ ap (λ m. list_any (is_without_call client) (values m)) c.self.view_is
