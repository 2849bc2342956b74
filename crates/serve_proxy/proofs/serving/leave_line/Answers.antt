use Rattle.serve_proxy.proofs.Going.{quietly_go, by_leave}
use Rattle.serve_proxy.proofs.serving.leave_line.Goals as goal

pub returns-then-leave_line : goal.returns-then-leave_line
returns-then-leave_line g c = record { ends = quietly_go (by_leave c.args.id c.args.core.now c.leave_line.new.self c.leave_line.ensures.left c.leave_line.ensures.fresh) }

pub returns-else-leave_line : goal.returns-else-leave_line
returns-else-leave_line g c = record { ends = quietly_go (by_leave c.args.id c.args.core.now c.leave_line.new.self c.leave_line.ensures.left c.leave_line.ensures.fresh) }
