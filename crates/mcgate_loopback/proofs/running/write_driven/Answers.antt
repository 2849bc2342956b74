use Rattle.std.proofs.Common.{refl}
use Rattle.mcgate_loopback.specs.Printed.{entry_lines, done_line}
use Rattle.mcgate_loopback.proofs.Reading.{both_written, broke_off}
use Rattle.mcgate_loopback.proofs.running.write_driven.Goals as goal

pub returns-in_ok-write_done-in-Ok-clause-ok : goal.returns-in_ok-write_done-in-Ok-clause-ok
returns-in_ok-write_done-in-Ok-clause-ok g c = (
  refl,
  record {
    shown = c.args.shown.now;
    counts = c.in-Ok.counts;
    printed = both_written (g.W.Write.contents c.args.out.now) (g.W.Write.contents c.write_entries.new.out) (g.W.Write.contents c.write_done.new.out) (entry_lines c.args.reloads.now c.args.shown.now) (done_line c.in-Ok.counts) c.in_ok-write_entries.ensures c.in_ok-write_done-in-Ok.ensures;
  },
)

pub returns-in-Err-clause-err : goal.returns-in-Err-clause-err
returns-in-Err-clause-err g c =
    broke_off (g.W.Write.contents c.args.out.now) (g.W.Write.contents c.write_entries.new.out) c.args.reloads.now c.args.shown.now c.fault_of.result c.fault_of.ensures c.in_ok-write_entries.ensures
