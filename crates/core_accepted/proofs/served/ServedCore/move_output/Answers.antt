use Rattle.std.proofs.lemmas.Result.{on_ok_weaker, IfErr-weaker}
use Rattle.core_accepted.proofs.Keeping.{goes}
use Rattle.core_accepted.proofs.Results.{same}
use Rattle.core_accepted.proofs.served.ServedCore.move_output.Goals as goal

pub returns-clause-err : goal.returns-clause-err
returns-clause-err c = IfErr-weaker c.move_output.result _ _ (λ fault f. (f.0, same c.args.self.now c.move_output.new.self f.1)) c.move_output.ensures.err

pub returns-clause-fresh : goal.returns-clause-fresh
returns-clause-fresh c = on_ok_weaker c.move_output.result (λ given. goes c.args.self.now c.move_output.new.self _ given.1) c.move_output.ensures.ok
