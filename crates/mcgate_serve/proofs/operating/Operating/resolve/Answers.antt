use Rattle.std.proofs.Common.{◌≤◌, length, sym, subst, arith}
use Rattle.serve_proxy.proofs.Staying.{stay_then, stay_still}
use Rattle.mcgate_serve.proofs.LookedUp.{AreLookedUpTo}
use Rattle.mcgate_serve.proofs.LookedUp.{none_yet, one_more, to_all}
use Rattle.mcgate_serve.proofs.operating.Operating.resolve.Goals as goal

pub loop-at-init : goal.loop-at-init
loop-at-init g c = record { looked = subst (λ n. AreLookedUpTo (length c.args.in_use.now) n c.args.servers.now (g.W.Wire.history c.args.sockets.now.wire)) (sym c.len-at.ensures.len) (none_yet (length c.args.in_use.now) c.args.servers.now (g.W.Wire.history c.args.sockets.now.wire)); ends = stay_still _ _ _ }

pub loop-at-preserved : goal.loop-at-preserved
loop-at-preserved g c = record {
  looked = one_more (length c.args.in_use.now) c.loop-at.at c.args.servers.now (g.W.Wire.history c.loop-at.sockets.wire) (g.W.Wire.history c.resolve_at.new.sockets.wire) (c.resolve_at.ensures.ends.quiet 0).after c.resolve_at.ensures.looked c.loop-at.invariant.looked;
  ends = stay_then c.loop-at.invariant.ends c.resolve_at.ensures.ends;
}

pub returns-in_err-resolve_at-clause-ends : goal.returns-in_err-resolve_at-clause-ends
returns-in_err-resolve_at-clause-ends g c = stay_then c.loop-at.invariant.ends c.resolve_at.ensures.ends

pub returns : goal.returns
returns g c =
    let all : length c.args.servers.now ≤ c.loop-at.at = omega arith in
    record { looked = to_all (length c.args.in_use.now) c.loop-at.at c.args.servers.now (g.W.Wire.history c.loop-at.sockets.wire) all c.loop-at.invariant.looked; ends = c.loop-at.invariant.ends }
