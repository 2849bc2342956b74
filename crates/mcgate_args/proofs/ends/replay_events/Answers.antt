use Rattle.std.proofs.Common.{Ok}
use Rattle.script_events.specs.Told.{told_over}
use Rattle.mcgate_replay.specs.Replay.{ReplaysOver, Overran, IsBrokenOff}
use Rattle.mcgate_ends.proofs.StopLemmas.{ran}
use Rattle.mcgate_args.proofs.ends.replay_events.Goals as goal

pub returns : goal.returns
returns g c =
    ran (λ text old new status. ReplaysOver c.args.judging c.args.config text old new status) (λ text old new. IsBrokenOff c.args.judging (Ok (told_over c.args.config text)) old new)
    (λ text old new. Overran c.args.judging (Ok (told_over c.args.config text)) old new) c.args.text.now _ _
    c.run_replay_over.result c.ended.result c.ended.ensures c.run_replay_over.ensures.wrote c.run_replay_over.ensures.refused c.run_replay_over.ensures.too_many
