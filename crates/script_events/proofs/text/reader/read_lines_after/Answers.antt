use Rattle.std.proofs.Common.{◌+◌}
use Rattle.script_events.proofs.Loads.{read_chained, read_in_order, bad_told}
use Rattle.script_events.specs.LinesAfter.{lines_after}
use Rattle.script_events.proofs.text.reader.read_lines_after.Goals as goal

pub returns-in-None-clause-order : goal.returns-in-None-clause-order
returns-in-None-clause-order c = read_in_order (c.args.above + 1) c.args.config (lines_after c.args.further) c.in_ok-events.field-0 (rw c.servers.ensures.servers at c.in_ok-events.ensures) c.in-None.is

pub returns-in-None-clause-chained : goal.returns-in-None-clause-chained
returns-in-None-clause-chained c = read_chained (c.args.above + 1) c.args.config (lines_after c.args.further) c.in_ok-events.field-0 (rw c.servers.ensures.servers at c.in_ok-events.ensures) c.in-None.is

pub returns-in-Some-clause-script : goal.returns-in-Some-clause-script
returns-in-Some-clause-script c =
    bad_told (c.args.above + 1) c.args.config (lines_after c.args.further) c.in_ok-events.field-0 (rw c.servers.ensures.servers at c.in_ok-events.ensures) c.in-Some.line c.in-Some.is
    c.bad_event_line.result c.bad_event_line.ensures c.unwrap_or.result c.unwrap_or.ensures
