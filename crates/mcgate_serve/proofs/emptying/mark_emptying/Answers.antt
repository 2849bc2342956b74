use Rattle.serve_proxy.proofs.Staying.{stay_then, stay_still}
use Rattle.mcgate_serve.specs.Emptied.{IsDueAt}
use Rattle.mcgate_serve.proofs.Emptied.{empties_none, empties_more}
use Rattle.mcgate_serve.proofs.emptying.mark_emptying.Goals as goal

pub loop-init : goal.loop-init
loop-init g c = record { ends = stay_still _ _ _; emptied = empties_none _ _ }

pub loop-preserved : goal.loop-preserved
loop-preserved g c = record {
  ends = stay_then c.loop.invariant.ends c.empty_first.ensures.ends;
  emptied = empties_more (IsDueAt c.args.emptying.now c.args.servers.now) c.in-Some.at c.args.sockets.now.links.all.items c.loop.sockets.links.all.items c.empty_first.new.self.links.all.items c.in-Some.ensures c.loop.invariant.emptied c.empty_first.ensures.emptied;
}
