use Rattle.core_accepted.proofs.Keeping.{goes}
use Rattle.core_accepted.proofs.served.ServedCore.leave_line.Goals as goal

pub returns-clause-fresh : goal.returns-clause-fresh
returns-clause-fresh c = goes c.args.self.now c.leave_line.new.self _ c.leave_line.ensures.left.1
