use Rattle.std.proofs.Common.{◌≡◌, ℕ, List, [], arith, length, map, None, inr, ◌∙◌, subst}
use Rattle.script_events.specs.declared.script.Reload.{Reload}
use Rattle.script_events.specs.Bad.{first_bad}
use Rattle.script_events.specs.Scripted.{scripted_of, transcript_of}
use Rattle.script_run.specs.Driving.{DrivesStepped}
use Rattle.mcgate_check.proofs.Answering.{counted, drives_leak}
use Rattle.mcgate_check.proofs.leaks.run.is_stale.Goals as goal

pub returns-in-Ok : goal.returns-in-Ok
returns-in-Ok c t =
    let events = map scripted_of c.args.script.now.events.items in
    let config = c.args.config.now in
    let none = c.deref.ensures.value ∙ c.new-none.ensures.items in
    record {
      can_be = subst (λ (n : ℕ). first_bad n events ≡ None) (counted (length config.servers) c.in_ok-servers.servers c.in_ok-servers.ensures.new) c.in-Ok.ensures.refuses;
      leaks = inr (drives_leak config.tree events (transcript_of c.drive_stepped-driven.new.transcript) c.drive_stepped-driven.new.marks.items c.in-Ok.report (subst (λ (rs : List Reload). DrivesStepped config.tree [] rs events (transcript_of c.drive_stepped-driven.new.transcript) c.drive_stepped-driven.new.marks.items c.in-Ok.report) none c.in-Ok.ensures.ok) t);
    }

pub drive_stepped-driven-requires-clause-few : goal.drive_stepped-driven-requires-clause-few
drive_stepped-driven-requires-clause-few c =
    let count = counted (length c.args.config.now.servers) c.in_ok-servers.servers c.in_ok-servers.ensures.new in
    let few = c.servers_for.ensures.few in omega (arith, count, few)
