use Rattle.std.proofs.Common.{[], ◌∷◌, refl, sym, subst}
use Rattle.route_json.specs.Configuration.{Configuration}
use Rattle.gate_check.specs.Gate.{IsJudged}
use Rattle.gate_check.specs.Tables.{IsTable}
use Rattle.mcgate_check.proofs.Statuses.{certified_in_use, table_in_use}
use Rattle.mcgate_check.proofs.reporting.report_by.Goals as goal

pub accept-requires-clause-certified : goal.accept-requires-clause-certified
accept-requires-clause-certified g c = certified_in_use _ _ _ _ c.in-Ok.ensures.accepted.0 c.config.ensures.config refl c.in-Ok.ensures.accepted.1

pub accept-requires-clause-table : goal.accept-requires-clause-table
accept-requires-clause-table g c = table_in_use _ _ _ _ _ c.in-Ok.ensures.accepted.0 c.config.ensures.config refl c.requires

pub refuse-requires-clause-judged : goal.refuse-requires-clause-judged
refuse-requires-clause-judged g c = subst (λ (k : Configuration). IsJudged k.tree c.in-Err.refused.reason) (sym c.in-Err.ensures.refused.0) c.in-Err.ensures.refused.1

pub refuse-requires-clause-table : goal.refuse-requires-clause-table
refuse-requires-clause-table g c = subst (λ (k : Configuration). IsTable (k.tree ∷ []) c.args.table.now) (sym c.in-Err.ensures.refused.0) c.requires
