use Rattle.std.proofs.lemmas.Result.{on_ok_weaker, IfErr-weaker}
use Rattle.core_accepted.proofs.Keeping.{goes}
use Rattle.core_accepted.proofs.Results.{same}
use Rattle.core_accepted.proofs.served.ServedCore.close.Goals as goal

pub returns-clause-err : goal.returns-clause-err
returns-clause-err c = IfErr-weaker c.close.result _ _ (λ fault f. (f.0, same c.args.self.now c.close.new.self f.1)) c.close.ensures.err

pub returns-clause-fresh : goal.returns-clause-fresh
returns-clause-fresh c = on_ok_weaker c.close.result (λ closed. goes c.args.self.now c.close.new.self _ closed.1.1) c.close.ensures.ok
