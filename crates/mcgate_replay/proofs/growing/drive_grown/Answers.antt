use Rattle.std.proofs.Common.{Bool, List, map, ◌∙◌, subst}
use Rattle.std.proofs.lemmas.Result.{IfOk-weaker, IfErr-weaker}
use Rattle.script_events.specs.Scripted.{scripted_of, transcript_of}
use Rattle.script_run.specs.Driving.{DrivesStepped, EndsStepped}
use Rattle.mcgate_replay.proofs.Grown.{grown_freshly, grown_ends}
use Rattle.mcgate_replay.proofs.growing.drive_grown.Goals as goal

pub returns-clause-ok : goal.returns-clause-ok
returns-clause-ok c =
    let f = c.requires.followed in
    let first = c.args.first.now in
    let rs = c.args.reloads.now in
    let ls = c.args.judged.now.loadings.items in
    let events = map scripted_of c.args.script.now.events.items in
    let d = c.drive_stepped in
    let same = c.as_slice-refused.ensures.value ∙ c.requires.refused in
    IfOk-weaker d.result _ _
    (λ report steps. grown_freshly first f.begun f.known rs ls events f.judged f.trees_are f.sound f.begins (transcript_of d.new.transcript) d.new.marks.items report
    (subst (λ (refused : List Bool). DrivesStepped first.tree refused rs events (transcript_of d.new.transcript) d.new.marks.items report) same steps))
    d.ensures.ok

pub returns-clause-fault : goal.returns-clause-fault
returns-clause-fault c =
    let f = c.requires.followed in
    let first = c.args.first.now in
    let rs = c.args.reloads.now in
    let ls = c.args.judged.now.loadings.items in
    let events = map scripted_of c.args.script.now.events.items in
    let d = c.drive_stepped in
    let same = c.as_slice-refused.ensures.value ∙ c.requires.refused in
    IfErr-weaker d.result _ _
    (λ fault ends. grown_ends first f.begun f.known rs ls events f.judged f.trees_are f.sound f.begins d.new.transcript d.new.marks.items c.args.servers.now d.new.servers fault
    (subst (λ (refused : List Bool). EndsStepped first.tree refused rs events d.new.transcript d.new.marks.items c.args.servers.now d.new.servers fault) same ends))
    d.ensures.fault
