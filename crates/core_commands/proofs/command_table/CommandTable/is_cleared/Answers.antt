use Rattle.std.proofs.Common.{nat_lt, ap, ◌∙◌}
use Rattle.std.specs.List.{list_any}
use Rattle.indexmap.specs.IndexMap.{values}
use Rattle.core_commands.specs.Claims.{clears_key}
use Rattle.core_commands.proofs.Counting.{any_counted}
use Rattle.core_commands.proofs.command_table.CommandTable.is_cleared.Goals as goal

pub returns-then-self : goal.returns-then-self
returns-then-self c =
    let key = c.args.key.now in
    ap (nat_lt 0) (c.count_of.ensures ∙ (c.self.invariant c.if-self.true).clears key) ∙ any_counted (clears_key key) (values c.self.inside.by_number) ∙ ap (λ m. list_any (clears_key key) (values m)) c.self.view_is
