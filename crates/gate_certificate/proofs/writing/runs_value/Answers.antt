use Rattle.std.proofs.Common.{map, take, ◌+◌}
use Rattle.gate_certificate.specs.Format.{run_in, run_row}
use Rattle.gate_certificate.proofs.Lists.{mapped_taken, written_more}
use Rattle.gate_certificate.proofs.writing.runs_value.Goals as goal

pub loop-run-preserved : goal.loop-run-preserved
loop-run-preserved c =
    let i = c.loop-run.run-index in
    let all = c.args.runs.now in
    written_more run_in 2 c.loop-run.values.items c.push.new.self.items c.in_ok-run_value.field-0 (map run_row (take i all)) (map run_row (take (i + 1) all)) (run_row c.run-item.result) c.loop-run.invariant c.in_ok-run_value.ensures.reads c.in_ok-run_value.ensures.depth c.in_ok-push.ensures.items (mapped_taken run_row all i c.run-item.result c.loop-run-test.true c.run-item.is)
