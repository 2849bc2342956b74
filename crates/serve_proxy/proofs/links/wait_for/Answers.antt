use Rattle.serve_proxy.proofs.Linking.{waits}
use Rattle.serve_proxy.proofs.links.wait_for.Goals as goal

pub returns-in-Ok-clause-ok : goal.returns-in-Ok-clause-ok
returns-in-Ok-clause-ok c = waits c.args.link.now c.let_wait.new.self c.args.call c.let_wait.ensures.rest c.in-Ok.ensures.ok
