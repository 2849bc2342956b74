use Rattle.std.proofs.Common.{List, string_bytes, subst}
use Rattle.gate_growth.specs.declared.ledger.page.Beginning.TheVariants.{Any}
use Rattle.gate_history.specs.declared.generation.Generation.{Generation}
use Rattle.gate_plan.specs.Plans.{LeadsThrough}
use Rattle.gate_plan.proofs.told.write_anew.Goals as goal

pub returns-in_ok-write_when : goal.returns-in_ok-write_when
returns-in_ok-write_when g c =
    subst (λ (gs : List Generation). LeadsThrough gs (string_bytes c.args.way.now.new) Any c.args.added) c.in_ok-new.ensures (c.in_ok-write_way.ensures c.if-branch.true)
