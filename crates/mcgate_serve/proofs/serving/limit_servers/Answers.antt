use Rattle.serde_json.specs.View.{view}
use Rattle.serve_proxy.proofs.Staying.{stay_still}
use Rattle.mcgate_serve.proofs.Loads.{limited_as}
use Rattle.mcgate_serve.proofs.serving.limit_servers.Goals as goal

pub returns-in-Ok : goal.returns-in-Ok
returns-in-Ok g c = record {
  limited = limited_as c.args.job.now.settings c.link_limits.result c.args.text.now (view c.in-Ok.said) c.limit.new.self.links.all.items c.in-Ok.ensures.ok c.link_limits.ensures c.limit.ensures.limited;
  ends = c.limit.ensures.ends;
}

pub returns-in-Err : goal.returns-in-Err
returns-in-Err g c = record { limited = tt; ends = λ any. stay_still _ _ _ }
