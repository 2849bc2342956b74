use Rattle.std.proofs.Common.{ℕ, sym, refl, ap, subst}
use Rattle.core_proxy.specs.Settles.{IsCalled, Settles}
use Rattle.script_run.specs.Turns.{TakesFirst}
use Rattle.script_run.specs.declared.driver.runner.Runner.{Runner}
use Rattle.script_run.proofs.DriverRunning.{resulted, at_server}
use Rattle.script_run.proofs.driver.runner.Runner.settle.Goals as goal

pub returns-in-Ok-clause-ok : goal.returns-in-Ok-clause-ok
returns-in-Ok-clause-ok c = λ before takes.
    let roomy = c.make_room.ensures.rest in
    let core = ap (λ (r : Runner). r.core) roomy in
    let call = c.in-Some.call in
    let there = c.if-not-is_same.ensures.0 refl in
    let ticket = c.args.ticket in
    at_server c.args.server call.server before _ c.args.servers.now c.answer.new.servers there
    (resulted c.results_go_on.ensures call.server call.ask.now call.origin c.in_ok-made.made c.stamp_of-stamp.result ticket before c.args.self.now (record c.make_room.new.self { core = c.settle.new.self; found = c.note.new.found })
    c.make_room.new.self.found c.args.servers.now c.answer.new.servers (subst (λ (n : ℕ). TakesFirst n ticket before c.args.self.now) (sym there) takes) (subst (λ k. IsCalled k ticket.number call.server call.ask.now call.origin) core c.in-Some.ensures)
    c.in_ok-make_room.ensures.ok c.stamp_of-stamp.ensures c.in_ok-made.ensures.ok c.in_ok-made.ensures.rest c.in_ok-note.ensures.ok (subst (λ k. Settles k ticket.number c.in_ok-made.made.outcome c.settle.new.self) core c.in-Ok.ensures.ok)
    (ap (λ (r : Runner). r.counts) roomy) (ap (λ (r : Runner). r.out) roomy))
