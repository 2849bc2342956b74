use Rattle.mcgate_args.specs.Program.{DoesTask, MemoryRefused, Overruns}
use Rattle.mcgate_ends.proofs.StopLemmas.{ran}
use Rattle.mcgate_args.proofs.ends.run_text.Goals as goal

pub returns : goal.returns
returns g c =
    ran (DoesTask c.args.task) (MemoryRefused c.args.task) (Overruns c.args.task) c.args.text.now _ _ c.answer.result c.ended.result c.ended.ensures c.answer.ensures.does c.answer.ensures.refused
    c.answer.ensures.too_many
