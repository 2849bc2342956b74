use Rattle.mcgate_loopback.specs.Running.{RunsLoopback}
use Rattle.mcgate_ends.specs.Ends.{NeverOverruns}
use Rattle.mcgate.specs.OverTcp.{LoopMemoryRefused}
use Rattle.mcgate_ends.proofs.StopLemmas.{ran, never}
use Rattle.mcgate.proofs.over_tcp.loop_text.Goals as goal

pub returns : goal.returns
returns g c =
    ran RunsLoopback LoopMemoryRefused NeverOverruns c.args.text.now _ _ c.run_loopback.result c.ended.result c.ended.ensures c.run_loopback.ensures.wrote c.run_loopback.ensures.refused
    (never c.run_loopback.result c.run_loopback.ensures.status)
