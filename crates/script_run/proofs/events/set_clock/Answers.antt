use Rattle.std.proofs.Common.{◌≡◌, arith}
use Rattle.std.proofs.Math.Facts.{to_z-of_z}
use Rattle.script_events.specs.Servers.{moment_now}
use Rattle.script_run.proofs.Steps.{timed}
use Rattle.script_run.proofs.events.set_clock.Goals as goal

pub returns-clause-timed : goal.returns-clause-timed
returns-clause-timed c =
    let is = c.set_moment.ensures.now in
    let now : moment_now c.set_moment.new.self ≡ c.args.moment.now = grind (arith, to_z-of_z, is) in
    timed c.args.moment.now c.args.runner.now c.args.servers.now c.set_moment.new.self now c.set_moment.ensures.rest
