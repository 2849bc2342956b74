use Rattle.std.proofs.Common.{◌≡◌, ◌≤◌, length, arith}
use Rattle.serve_wire.proofs.Steps.{untouched}
use Rattle.mcgate.specs.Served.{history_of}
use Rattle.mcgate_serve.proofs.LookedUp.{none_yet, one_more, to_all, quiet_twice}
use Rattle.mcgate.proofs.serve.look_up.Goals as goal

pub loop-at-init : goal.loop-at-init
loop-at-init g c = record { quiet = λ d. untouched d (history_of c.args.wire.now); looked = none_yet 0 c.args.servers.now (history_of c.args.wire.now) }

pub loop-at-preserved : goal.loop-at-preserved
loop-at-preserved g c = record {
  quiet = quiet_twice c.loop-at.invariant.quiet c.look_up_at.ensures.quiet;
  looked = one_more 0 c.loop-at.at c.args.servers.now (history_of c.loop-at.wire) (history_of c.look_up_at.new.wire) (c.look_up_at.ensures.quiet 0).after c.look_up_at.ensures.looked c.loop-at.invariant.looked;
}

pub returns-in_err-look_up_at-clause-quiet : goal.returns-in_err-look_up_at-clause-quiet
returns-in_err-look_up_at-clause-quiet g c = quiet_twice c.loop-at.invariant.quiet c.look_up_at.ensures.quiet

pub returns : goal.returns
returns g c =
    let all : length c.args.servers.now ≤ c.loop-at.at = omega arith in
    record { quiet = c.loop-at.invariant.quiet; looked = to_all 0 c.loop-at.at c.args.servers.now (history_of c.loop-at.wire) all c.loop-at.invariant.looked }
