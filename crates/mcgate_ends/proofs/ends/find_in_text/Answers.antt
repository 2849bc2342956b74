use Rattle.mcgate_lines.specs.Finding.{FindsKeys}
use Rattle.mcgate_ends.specs.Ends.{NeverOverruns, SaysNothing}
use Rattle.mcgate_ends.proofs.StopLemmas.{ran, never}
use Rattle.mcgate_ends.proofs.ends.find_in_text.Goals as goal

pub returns : goal.returns
returns g c =
    ran (λ text old new status. FindsKeys text c.args.keys.now old new status) SaysNothing NeverOverruns c.args.text.now _ _ c.run_where.result c.ended.result c.ended.ensures c.run_where.ensures.wrote
    (λ refused. tt) (never c.run_where.result c.run_where.ensures.status)
