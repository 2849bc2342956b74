use Rattle.mcgate_serve.proofs.Told.{told_in_prometheus, told_in_json}
use Rattle.mcgate_serve.proofs.watching.Watching.page.Goals as goal

pub returns-in_ok-numbers-in-Metrics-clause-metrics : goal.returns-in_ok-numbers-in-Metrics-clause-metrics
returns-in_ok-numbers-in-Metrics-clause-metrics g c = λ page. told_in_prometheus (λ text. text.items) _ _ _ c.prometheus_of.result c.in_ok-numbers-in-Metrics.ensures c.prometheus_of.ensures

pub returns-in_ok-numbers-in-Stats-clause-stats : goal.returns-in_ok-numbers-in-Stats-clause-stats
returns-in_ok-numbers-in-Stats-clause-stats g c = λ page. told_in_json (λ text. text.items) _ _ _ c.json_of.result c.in_ok-numbers-in-Stats.ensures c.json_of.ensures
