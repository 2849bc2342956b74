use Rattle.std.proofs.Common.{refl, sym}
use Rattle.serve_proxy.proofs.Lent.{on_some, stay_lent}
use Rattle.serve_proxy.proofs.sockets.Sockets.is_quiet.Goals as goal

pub returns-in-Some-clause-ends : goal.returns-in-Some-clause-ends
returns-in-Some-clause-ends g c =
    let y = c.in-Some.client.now in
    stay_lent c.args.self.now.clients (c.get_mut.follows.lender y) c.args.id y y (sym c.in-Some.ensures.value) refl (on_some c.get_mut.result c.in-Some.client _ c.in-Some.is (c.get_mut.follows.holds y))
