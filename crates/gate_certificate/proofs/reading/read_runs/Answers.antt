use Rattle.std.proofs.Common.{map}
use Rattle.serde_json.specs.View.{view, items_view}
use Rattle.gate_certificate.specs.Format.{each_in, run_in, run_row}
use Rattle.gate_certificate.proofs.Lists.{each_none, mapped_pushed, passed, read_more}
use Rattle.gate_certificate.proofs.reading.read_runs.Goals as goal

pub returns-in_err-read_run : goal.returns-in_err-read_run
returns-in_err-read_run c =
    passed (λ v. map run_row v.items) c.from_residual.result c.in_err-read_run.field-0.0 (run_in (view c.index-items-index.result)) (each_in run_in (items_view c.args.items.now)) c.from_residual.ensures.1 c.in_err-read_run.ensures
    (each_none run_in c.args.items.now c.loop-index.index c.index-items-index.result c.loop-index-test.true c.index-items-index.is)

pub loop-index-preserved : goal.loop-index-preserved
loop-index-preserved c =
    read_more run_in c.args.items.now c.loop-index.index c.index-items-index.result (map run_row c.loop-index.runs.items) (map run_row c.push.new.self.items) (run_row c.in_ok-read_run.field-0) c.loop-index.invariant c.loop-index-test.true c.index-items-index.is c.in_ok-read_run.ensures
    (mapped_pushed run_row c.loop-index.runs.items c.push.new.self.items c.in_ok-read_run.field-0 c.in_ok-push.ensures.items)
