use Rattle.std.specs.Prelude.{string_bytes}
use Rattle.mcgate_serve.proofs.Loads.{stands_said, loads_as}
use Rattle.mcgate_serve.proofs.serving.Serving.load_new.Goals as goal

pub returns-clause-remembered : goal.returns-clause-remembered
returns-clause-remembered g c = stands_said c.args.self.now.end.core.value c.judge_text.new.self.end.core.value c.judge_text.new.self.memory c.as_str.result.now (string_bytes c.args.text) c.as_str.ensures.value c.judge_text.ensures.remembered

pub returns-clause-in_use : goal.returns-clause-in_use
returns-clause-in_use g c = loads_as c.args.self.now.in_use c.judge_text.new.self.in_use c.args.self.now.servers c.as_str.result.now (string_bytes c.args.text) c.args.self.now.end.core.value c.judge_text.new.self.end.core.value c.as_str.ensures.value c.in_ok-is_used.ensures.in_use
