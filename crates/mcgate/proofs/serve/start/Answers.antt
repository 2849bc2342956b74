use Rattle.mcgate.proofs.Loads.{begins_serving, used_first_on}
use Rattle.mcgate.proofs.serve.start.Goals as goal

pub returns : goal.returns
returns g c = record {
  begins = begins_serving c.args.servable c.args.job.now.begun c.args.job.now.settings c.in_ok-servers.servers c.in_ok-end.end c.new-serving.result c.new-serving.ensures.end c.in_ok-end.ensures.core c.in_ok-end.ensures.ends c.in_ok-end.ensures.texts c.in_ok-end.ensures.looked c.in_ok-servers.ensures;
  text = c.new-serving.ensures.text;
  in_use = used_first_on c.args.job.now.fleet c.args.servable c.in_ok-in_use.in_use c.new-serving.result c.new-serving.ensures.in_use c.in_ok-in_use.ensures;
}
