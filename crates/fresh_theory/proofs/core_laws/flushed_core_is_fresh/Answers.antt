use Rattle.fresh_theory.proofs.Flushed.{flushed_runs}
use Rattle.fresh_theory.proofs.FlushedLogs.{flushed_logs}
use Rattle.fresh_theory.proofs.core_laws.flushed_core_is_fresh.Goals as goal

pub returns : goal.returns
returns c known word =
    let served = c.args.core.now in
    let sound = c.accepted_trees_are_sound.ensures in
    (flushed_runs served sound known word, flushed_logs served sound known word)
