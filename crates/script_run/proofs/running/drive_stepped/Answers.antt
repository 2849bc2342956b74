use Rattle.std.proofs.Common.{map, sym, subst}
use Rattle.script_events.specs.Scripted.{scripted_of}
use Rattle.script_run.specs.Driving.{EndsStepped}
use Rattle.script_run.proofs.Broken.{ends_so}
use Rattle.script_run.proofs.running.drive_stepped.Goals as goal

pub returns-in-Err-clause-fault : goal.returns-in-Err-clause-fault
returns-in-Err-clause-fault c =
    let first = c.args.config.now.tree in
    let refused = c.args.refused.now in
    let reloads = c.args.reloads.now in
    let events = map scripted_of c.args.script.now.events.items in
    let d = c.drive_events.new in
    subst (EndsStepped first refused reloads events d.transcript d.marks.items c.args.servers.now d.servers) (sym c.drive_fault.ensures)
    (ends_so c.in-Err.fault first refused reloads events d.transcript d.marks.items c.args.servers.now d.servers c.in-Err.ensures.err)
