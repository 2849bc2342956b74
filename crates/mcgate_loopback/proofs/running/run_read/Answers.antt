use Rattle.std.proofs.Common.{inr, refl}
use Rattle.std.proofs.lemmas.Result.{IfOk-weaker}
use Rattle.mcgate_loopback.proofs.Reading.{paired, runs}
use Rattle.mcgate_loopback.proofs.running.run_read.Goals as goal

pub run_script-requires : goal.run_script-requires
run_script-requires g c = paired c.requires.told c.in-Ok.configured (rw c.in-Ok.is at c.requires.reads)

pub returns-in-Ok-clause-ok : goal.returns-in-Ok-clause-ok
returns-in-Ok-clause-ok g c =
    IfOk-weaker c.run_script.result _ _ (λ status r. λ t h. runs t c.in-Ok.configured _ _ status (rw c.in-Ok.is at h) r) c.run_script.ensures.ok

pub returns-in_ok-write_bad_line-in-Err-BadLine-clause-ok : goal.returns-in_ok-write_bad_line-in-Err-BadLine-clause-ok
returns-in_ok-write_bad_line-in-Err-BadLine-clause-ok g c = λ t h.
    let read-bad = rw c.in-Err-BadLine.is at h in
    let told-bad = rw c.in-Err-BadLine.field-0-is at read-bad in
    inr (refl, inr (record { line = c.in-Err-BadLine.line; bad = told-bad.1; printed = rw (← c.in-Err-BadLine.line-is) c.in_ok-write_bad_line-in-Err-BadLine.ensures }))
