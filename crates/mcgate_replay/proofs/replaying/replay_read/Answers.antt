use Rattle.std.proofs.Common.{inr, refl}
use Rattle.std.proofs.lemmas.Result.{IfOk-weaker, IfErr-weaker}
use Rattle.mcgate_replay.proofs.Printing.{replays, breaks_off, bad_by, paired}
use Rattle.mcgate_replay.proofs.replaying.replay_read.Goals as goal

pub run_script-requires-clause-lines : goal.run_script-requires-clause-lines
run_script-requires-clause-lines g c = paired c.requires.reading.told c.in-Ok.configured (rw c.in-Ok.is at c.requires.reading.reads)

pub run_script-requires-clause-reloads : goal.run_script-requires-clause-reloads
run_script-requires-clause-reloads g c = rw c.in-Ok.is at c.requires.reloads

pub returns-in-Ok-clause-ok : goal.returns-in-Ok-clause-ok
returns-in-Ok-clause-ok g c =
    IfOk-weaker c.run_script.result _ _ (λ status r. λ t h. replays c.args.judging t c.in-Ok.configured _ _ status (rw c.in-Ok.is at h) r) c.run_script.ensures.ok

pub returns-in-Ok-clause-err : goal.returns-in-Ok-clause-err
returns-in-Ok-clause-err g c =
    IfErr-weaker c.run_script.result _ _ (λ fault b. λ t h. breaks_off c.args.judging t c.in-Ok.configured _ _ fault (rw c.in-Ok.is at h) b) c.run_script.ensures.err

pub returns-in_ok-write_bad_line-in-Err-BadLine-clause-ok : goal.returns-in_ok-write_bad_line-in-Err-BadLine-clause-ok
returns-in_ok-write_bad_line-in-Err-BadLine-clause-ok g c = λ t h.
    let read-bad = rw c.in-Err-BadLine.is at h in
    let told-bad = rw c.in-Err-BadLine.field-0-is at read-bad in
    inr (refl, inr (record { line = c.in-Err-BadLine.line; bad = bad_by c.args.judging t c.in-Err-BadLine.line told-bad.1; printed = rw (← c.in-Err-BadLine.line-is) c.in_ok-write_bad_line-in-Err-BadLine.ensures }))
