use Rattle.std.proofs.Common.{◌≤◌, ap, sym, subst, arith}
use Rattle.serve_clients.specs.declared.clients.Clients.{Clients}
use Rattle.serve_proxy.specs.Stalls.{held_by_all, holders}
use Rattle.serve_proxy.proofs.Going.{still, and_then, stays}
use Rattle.serve_proxy.proofs.Shedding.{few_holders, held_by_none}
use Rattle.serve_proxy.proofs.stalls.shed.Goals as goal

pub loop-init : goal.loop-init
loop-init g c = record { ends = still; fewer = omega (arith, few_holders c.args.sockets.now.clients) }

pub loop-preserved : goal.loop-preserved
loop-preserved g c = record {
  ends = and_then (and_then c.loop.invariant.ends (stays c.args.core.now c.has_too_much.ensures.ends)) c.shed_one.ensures.ends;
  fewer = omega (arith, c.loop.invariant.fewer, c.shed_one.ensures.fewer, ap holders c.has_too_much.ensures.clients, c.len-end.ensures);
}

pub returns-then-not-has_too_much : goal.returns-then-not-has_too_much
returns-then-not-has_too_much g c = record {
  ends = and_then c.loop.invariant.ends (stays c.args.core.now c.has_too_much.ensures.ends);
  bounded = subst (λ (clients : Clients). held_by_all clients ≤ c.args.most) (sym c.has_too_much.ensures.clients) (c.has_too_much.ensures.bounded c.if-not-has_too_much.true);
}

pub returns : goal.returns
returns g c = record {
  ends = c.loop.invariant.ends;
  bounded = subst (λ n. n ≤ c.args.most) (sym (held_by_none c.loop.sockets.clients (omega (arith, c.loop.invariant.fewer, c.loop-test.false, c.len-end.ensures)))) (omega arith);
}
