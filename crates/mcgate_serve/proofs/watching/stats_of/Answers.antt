use Rattle.mcgate_serve.proofs.Told.{told_in_json}
use Rattle.mcgate_serve.proofs.watching.stats_of.Goals as goal

pub returns : goal.returns
returns g c = told_in_json (λ text. text.items) _ _ _ c.json_of.result c.in_ok-numbers_of.ensures c.json_of.ensures
