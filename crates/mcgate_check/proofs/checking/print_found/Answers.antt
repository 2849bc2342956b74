use Rattle.std.proofs.Common.{refl}
use Rattle.mcgate_check.specs.Checking.{ChecksRefused, run_lines}
use Rattle.gate_gaps.proofs.Written.{both_written}
use Rattle.mcgate_check.proofs.Runs.{lines_show}
use Rattle.mcgate_check.proofs.checking.print_found.Goals as goal

pub returns-clause-ok : goal.returns-clause-ok
returns-clause-ok g c =
    let line = c.in_ok-status.ensures.ok in
    let wrote = both_written _ _ _ _ _ line.2 c.in_ok-print_run.ensures.lines in
    let checks : ChecksRefused c.args.config.now c.args.reason.now (g.W.Write.contents c.args.out.now) (g.W.Write.contents c.print_run.new.out) = record { told = line.1; judged = c.requires.judged; run = run_lines c.args.run.now; shows = lines_show c.args.config.now c.args.reason.now c.args.run.now c.requires.found c.in_ok-print_run.ensures.widths; printed = wrote } in
    (line.0, record { checks = checks; run_is = refl })
