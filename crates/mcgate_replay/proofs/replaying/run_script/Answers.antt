use Rattle.std.proofs.Common.{refl, inr}
use Rattle.script_events.specs.Told.{count_known}
use Rattle.mcgate_replay.specs.Replay.{replayed_events}
use Rattle.mcgate_replay.proofs.Printing.{event_line}
use Rattle.mcgate_replay.proofs.replaying.run_script.Goals as goal

pub returns-in_ok-write_bad_line-in-Some-clause-ok : goal.returns-in_ok-write_bad_line-in-Some-clause-ok
returns-in_ok-write_bad_line-in-Some-clause-ok g c = inr (
  refl,
  record {
    line = c.unwrap-line.result;
    bad = event_line (count_known c.args.configured.now) c.args.judging c.args.configured.now.config (replayed_events c.args.configured.now) c.args.configured.now.lines.items c.in-Some.event c.line_of.result c.unwrap-line.result c.in-Some.ensures.first c.line_of.ensures c.unwrap-line.ensures;
    printed = c.in_ok-write_bad_line-in-Some.ensures;
  },
)
