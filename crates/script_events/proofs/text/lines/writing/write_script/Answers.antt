use Rattle.script_events.proofs.Widths.{lines_more, widths_more}
use Rattle.script_events.proofs.text.lines.writing.write_script.Goals as goal

pub loop-event-preserved : goal.loop-event-preserved
loop-event-preserved g c =
    let events = c.deref-event-items.result.now in
    let i = c.loop-event.event-index in
    let event = c.event-item.result in
    record {
      lines = lines_more events i event c.loop-event-test.true c.event-item.is _ _ _ c.loop-event.invariant.lines c.in_ok-write_event.ensures.line;
      widths = widths_more events i event c.loop-event-test.true c.event-item.is c.loop-event.invariant.widths c.in_ok-write_event.ensures.widths;
    }
