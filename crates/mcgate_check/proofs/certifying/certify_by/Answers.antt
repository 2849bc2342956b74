use Rattle.std.proofs.Common.{sym, subst}
use Rattle.route_json.specs.Configuration.{Configuration}
use Rattle.gate_check.specs.Gate.{IsJudged}
use Rattle.mcgate_check.proofs.Statuses.{certified_in_use, table_in_use}
use Rattle.mcgate_check.proofs.certifying.certify_by.Goals as goal

pub print_certificate-requires-clause-certified : goal.print_certificate-requires-clause-certified
print_certificate-requires-clause-certified g c = certified_in_use _ _ _ _ c.in-Ok.ensures.accepted.0 c.config.ensures.config c.tree.ensures.tree c.in-Ok.ensures.accepted.1

pub print_certificate-requires-clause-table : goal.print_certificate-requires-clause-table
print_certificate-requires-clause-table g c = table_in_use _ _ _ _ _ c.in-Ok.ensures.accepted.0 c.config.ensures.config c.tree.ensures.tree c.requires

pub print_refused-requires : goal.print_refused-requires
print_refused-requires g c = subst (λ (k : Configuration). IsJudged k.tree c.in-Err.refused.reason) (sym c.in-Err.ensures.refused.0) c.in-Err.ensures.refused.1
