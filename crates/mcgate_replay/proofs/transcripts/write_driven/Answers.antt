use Rattle.std.proofs.Common.{List, map, subst}
use Rattle.std.specs.Io.KnownBytes.{Appends}
use Rattle.script_events.specs.Scripted.{output_shown}
use Rattle.script_events.specs.declared.script.Output.{Output}
use Rattle.mcgate_replay.specs.Replay.{transcript_lines}
use Rattle.mcgate_replay.proofs.Printing.{broke_off}
use Rattle.mcgate_replay.proofs.transcripts.write_driven.Goals as goal

pub returns-in_ok-write_entries-in-Err-clause-err : goal.returns-in_ok-write_entries-in-Err-clause-err
returns-in_ok-write_entries-in-Err-clause-err g c =
    let before = g.W.Write.contents c.args.out.now in
    let after = g.W.Write.contents c.write_entries-in-Err.new.out in
    let wrote =
    subst (λ (o : List Output). Appends before after (transcript_lines c.args.any c.args.reloads.now c.args.loadings.now (map output_shown o) c.args.marks.now)) c.as_slice-outputs.ensures.value
    c.in_ok-write_entries-in-Err.ensures.ok in
    broke_off c.args.driven.now c.in-Err.fault _ before after c.run_fault.result c.in-Err.is c.run_fault.ensures wrote
