use Rattle.std.proofs.Common.{Option, IfSome, map, sym, subst}
use Rattle.script_events.specs.declared.script.Script.{Script}
use Rattle.script_events.specs.Scripted.{scripted_of}
use Rattle.mcgate_check.specs.Refusals.{IsRefusalRun}
use Rattle.mcgate_check.proofs.Answering.{by_stale, driven_run}
use Rattle.mcgate_check.proofs.leaks.run.driven_run.Goals as goal

pub returns : goal.returns
returns c =
    let config = c.args.config.now in
    let gap = c.args.gap.now in
    let script = c.in_ok-script.script in
    subst (λ (found : Option Script). IfSome found (λ s. IsRefusalRun config gap (map scripted_of s.events.items))) (sym c.only_if.ensures)
    (by_stale c.in_ok-stale.stale script (λ s. IsRefusalRun config gap (map scripted_of s.events.items)) (λ t. driven_run config gap c.args.key.now (map scripted_of script.events.items) c.requires.first c.requires.none c.in_ok-script.ensures (c.in_ok-stale.ensures t)))
