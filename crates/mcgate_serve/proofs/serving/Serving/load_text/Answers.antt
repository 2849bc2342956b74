use Rattle.serde_json.specs.View.{view}
use Rattle.mcgate_serve.proofs.Loads.{loaded, loads_text, may_load_said}
use Rattle.mcgate_serve.proofs.serving.Serving.load_text.Goals as goal

pub returns-in-Ok : goal.returns-in-Ok
returns-in-Ok g c = record {
  core = may_load_said c.args.self.now.in_use c.args.self.now.servers c.args.text.now c.in-Ok.config c.args.self.now.end.core.value c.load_beside.new.self.end.core.value c.in-Ok.ensures.says c.load_beside.ensures.core;
  ends = loaded c.args.self.now.servers c.in-Ok.servers c.args.text.now c.in-Ok.config (view c.in-Ok.said) c.in-Ok.ensures.says c.in-Ok.ensures.servers c.in-Ok.ensures.value c.load_beside.ensures.ends;
  memory = c.load_beside.ensures.memory;
  unused = c.load_beside.ensures.unused;
  in_use = loads_text c.load_beside.result c.args.self.now.in_use c.load_beside.new.self.in_use c.args.self.now.servers c.args.text.now c.in-Ok.config c.args.self.now.end.core.value c.load_beside.new.self.end.core.value c.in-Ok.ensures.says c.load_beside.ensures.in_use;
}
