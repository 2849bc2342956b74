use Rattle.std.proofs.lemmas.Result.{on_ok_weaker, IfErr-weaker}
use Rattle.core_accepted.proofs.Keeping.{feeds}
use Rattle.core_accepted.proofs.Results.{same}
use Rattle.core_accepted.proofs.served.ServedCore.feed.Goals as goal

pub returns-clause-err : goal.returns-clause-err
returns-clause-err c = IfErr-weaker c.feed.result _ _ (λ fault f. (f.0, same c.args.self.now c.feed.new.self f.1)) c.feed.ensures.err

pub returns-clause-fresh : goal.returns-clause-fresh
returns-clause-fresh c = on_ok_weaker c.feed.result (λ taken. feeds _ c.args.self.now c.feed.new.self c.args.client c.args.piece.now taken.1) c.feed.ensures.ok
