use Rattle.std.proofs.Common.{refl, arith}
use Rattle.serve_proxy.proofs.Greatest.{most_more, most_of_all, none_of_all}
use Rattle.serve_proxy.proofs.sockets.Sockets.greatest_with.Goals as goal

pub loop-id-init : goal.loop-id-init
loop-id-init g c = refl

pub loop-id-preserved : goal.loop-id-preserved
loop-id-preserved g c = most_more c.args.self.now.clients c.loop-id.id c.held.result c.loop-id.best _ c.held.ensures c.greater-best.ensures c.loop-id.invariant

pub returns : goal.returns
returns g c = record {
  most = most_of_all c.args.self.now.clients c.loop-id.id c.loop-id.best (omega (arith, c.loop-id-test.false, c.len-id-end.ensures)) c.loop-id.invariant;
  none = λ none. none_of_all c.args.self.now.clients c.loop-id.id c.loop-id.best (omega (arith, c.loop-id-test.false, c.len-id-end.ensures)) none c.loop-id.invariant;
}
