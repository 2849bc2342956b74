use Rattle.std.proofs.Common.{◌+◌, sym, subst}
use Rattle.core_proxy.specs.Polls.{IsStalled}
use Rattle.core_proxy.specs.declared.proxy.Core.{Core}
use Rattle.core_proxy.proofs.Stalled.{stalled_over}
use Rattle.script_run.proofs.DriverRunning.{loaded}
use Rattle.script_run.proofs.driver.runner.Runner.load.Goals as goal

pub returns-in-Ok-reload-clause-loaded : goal.returns-in-Ok-reload-clause-loaded
returns-in-Ok-reload-clause-loaded c = loaded c.loads_go_on.ensures c.args.self.now c.reload.new.self _ c.args.tree.now c.in-Ok.ensures c.in-Ok-reload.ensures.ok.1

pub returns-in-Ok-reload-clause-stalled : goal.returns-in-Ok-reload-clause-stalled
returns-in-Ok-reload-clause-stalled c = λ alone n held.
    let old = c.args.self.now.core in
    subst (λ (core : Core). IsStalled core n) (sym c.in-Ok-reload.ensures.ok.1.core_is) (stalled_over old _ (old.generation + 1) alone n held)
