use Rattle.std.specs.Prelude.{string_bytes}
use Rattle.mcgate_serve.proofs.Loads.{serves_still, serves_from, serves_none}
use Rattle.mcgate_serve.proofs.serving.Serving.tell_and_run.Goals as goal

pub returns-in_err-limit_servers : goal.returns-in_err-limit_servers
returns-in_err-limit_servers g c = record { ends = serves_none g.W.Wire.history c.args.self.now.end c.limit_servers.new.sockets c.limit_servers.ensures.ends }

pub returns-in_err-tell_start : goal.returns-in_err-tell_start
returns-in_err-tell_start g c = record { ends = serves_from g.W.Wire.history c.args.self.now.end c.limit_servers.new.sockets c.limit_servers.ensures.ends c.as_str.result.now (string_bytes c.args.self.now.text) c.as_str.ensures.value c.in_ok-limit_servers.ensures.limited (serves_still g.W.Wire.history (record c.args.self.now.end { sockets = c.limit_servers.new.sockets })) }

pub returns : goal.returns
returns g c = record { ends = serves_from g.W.Wire.history c.args.self.now.end c.limit_servers.new.sockets c.limit_servers.ensures.ends c.as_str.result.now (string_bytes c.args.self.now.text) c.as_str.ensures.value c.in_ok-limit_servers.ensures.limited c.run.ensures.ends }
