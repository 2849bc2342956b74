use Rattle.std.proofs.Common.{Bool, sym, subst}
use Rattle.route_tree.specs.Route.{Route}
use Rattle.script_run.specs.Running.{IsLoadedBy}
use Rattle.script_run.proofs.DriverRunning.{on_ok, on_both}
use Rattle.script_run.specs.Stepping.{TakesUp}
use Rattle.script_run.proofs.running.take_over.Goals as goal

pub returns-clause-takes : goal.returns-clause-takes
returns-clause-takes c =
    on_ok c.load.result _ _
    (λ m. subst (λ (b : Bool). TakesUp b c.args.reload.now.config.tree c.args.runner.now c.load.new.self) (sym c.if-refused.false)
    (λ s. subst (λ (t : Route). IsLoadedBy t c.args.runner.now s c.load.new.self s) c.tree.ensures.tree (m.0 s), m.1))
    (on_both c.load.result _ _ c.load.ensures.loaded c.load.ensures.stalled)
