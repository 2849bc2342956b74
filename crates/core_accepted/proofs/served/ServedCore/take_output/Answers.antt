use Rattle.std.proofs.lemmas.Result.{IfOk-weaker, IfErr-weaker}
use Rattle.core_accepted.proofs.Keeping.{goes}
use Rattle.core_accepted.proofs.Results.{same}
use Rattle.core_accepted.proofs.served.ServedCore.take_output.Goals as goal

pub returns-clause-err : goal.returns-clause-err
returns-clause-err c = IfErr-weaker c.take_output.result _ _ (λ fault f. (f.0, same c.args.self.now c.take_output.new.self f.1)) c.take_output.ensures.err

pub returns-clause-fresh : goal.returns-clause-fresh
returns-clause-fresh c = IfOk-weaker c.take_output.result _ _ (λ bytes given. goes c.args.self.now c.take_output.new.self _ given.1) c.take_output.ensures.ok
