use Rattle.std.proofs.Common.{refl}
use Rattle.script_run.proofs.Firsts.{none_out, taken}
use Rattle.script_run.proofs.driver.runner.Runner.take_first.Goals as goal

pub returns-in-None : goal.returns-in-None
returns-in-None c = (refl, none_out c.args.server c.args.self.now.out.items c.in-None.ensures)

pub returns-in-Some : goal.returns-in-Some
returns-in-Some c = taken c.args.server c.args.self.now (record c.args.self.now { out = c.remove.new.self }) c.in-Some.at c.remove.result c.in-Some.ensures c.remove.ensures.value refl c.remove.ensures.items
