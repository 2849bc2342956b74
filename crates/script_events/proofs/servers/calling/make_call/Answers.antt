use Rattle.std.proofs.Common.{OnErr, option_map, sym, subst}
use Rattle.script_events.specs.Servers.{manner_of}
use Rattle.mc_types.specs.declared.call.Outcome.TheVariants.{Answered}
use Rattle.script_events.specs.declared.servers.event.Made.{Made}
use Rattle.script_events.specs.Calling.{CallIsMade, IsRefused}
use Rattle.script_events.proofs.Calls.{answered}
use Rattle.script_events.proofs.servers.calling.make_call.Goals as goal

pub returns-in_ok-answer-in-None-clause-ok : goal.returns-in_ok-answer-in-None-clause-ok
returns-in_ok-answer-in-None-clause-ok c =
    let d = c.in_ok-answer-in-None in
    let made : Made = record { outcome = Answered d.answer; stamp = d.stamp } in
    subst (λ n. CallIsMade (option_map manner_of n) c.args.stamp c.args.moment.seconds c.args.caches.now.items c.args.server c.args.ask.now made c.apply.new.caches.items) (sym c.in-None.is)
    (answered c.args.stamp c.args.moment.seconds c.args.caches.now.items c.args.server c.args.ask.now d.answer d.stamp c.apply.new.caches.items d.ensures.ok)

pub returns-in-Some-clause-err : goal.returns-in-Some-clause-err
returns-in-Some-clause-err c =
    subst (λ n. OnErr c.fail_call.result (IsRefused (option_map manner_of n) c.args.stamp c.args.moment.seconds c.args.caches.now.items c.args.server c.args.ask.now c.fail_call.new.caches.items)) (sym c.in-Some.is) c.fail_call.ensures.err
