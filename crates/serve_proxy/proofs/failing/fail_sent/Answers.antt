use Rattle.std.proofs.Common.{None, sym, refl, inr}
use Rattle.serve_proxy.proofs.Going.{still, and_then, stays}
use Rattle.serve_proxy.proofs.GivenUp.{line_goes_to}
use Rattle.serve_proxy.proofs.Staying.{stay_clients}
use Rattle.serve_proxy.proofs.Linking.{late_at, waits_none, waits_set}
use Rattle.serve_proxy.proofs.failing.fail_sent.Goals as goal

pub returns-in-None : goal.returns-in-None
returns-in-None g c = record { ends = still; late = inr refl; stores = waits_none c.args.sockets.now.links.all.items }

pub returns-in-Some : goal.returns-in-Some
returns-in-Some g c = record {
  ends = and_then
      (line_goes_to None c.args.sockets.now.links.all.items c.args.at c.in-Some.link.now c.fail_late.new.link c.in-Some.ensures.item.3.0 c.in-Some.ensures.value (c.fail_late.ensures.goes c.args.at (g.W.Wire.history c.args.sockets.now.wire) (sym c.last_millis-now.ensures)))
      (stays c.fail_late.new.core (stay_clients _ _ _ _ c.fail_late.ensures.ends));
  late = late_at c.args.sockets.now.links.all.items c.in-Some.link.now c.fail_late.new.link c.args.at c.last_millis-now.ensures c.in-Some.ensures.item.3.0 c.in-Some.ensures.value c.fail_late.ensures.late;
  stores = waits_set c.args.sockets.now.links.all.items c.args.at c.in-Some.link.now c.fail_late.new.link c.in-Some.ensures.value c.fail_late.ensures.stores;
}
