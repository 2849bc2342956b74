use Rattle.std.proofs.Common.{refl, sym}
use Rattle.serve_proxy.proofs.Lent.{on_some, stay_lent}
use Rattle.serve_proxy.proofs.serving.is_over.Goals as goal

pub returns-in-Some : goal.returns-in-Some
returns-in-Some g c = record { ends = stay_lent c.args.sockets.now.clients (c.get_mut.follows.lender c.in-Some.client.now) c.args.id c.in-Some.client.now c.in-Some.client.now (sym c.in-Some.ensures.value) refl (on_some c.get_mut.result c.in-Some.client _ c.in-Some.is (c.get_mut.follows.holds c.in-Some.client.now)) }
