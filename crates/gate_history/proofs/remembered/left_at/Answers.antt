use Rattle.std.proofs.Common.{subst}
use Rattle.route_json.specs.Configuration.{Configuration}
use Rattle.gate_growth.specs.declared.ledger.page.Beginning.TheVariants.{Own}
use Rattle.gate_history.specs.Judged.{IsSoundAfter}
use Rattle.gate_history.proofs.remembered.left_at.Goals as goal

pub returns-in-Ok : goal.returns-in-Ok
returns-in-Ok c = subst (λ (config : Configuration). IsSoundAfter c.args.history.now config Own) c.in_ok-config.ensures c.in-Ok.ensures
