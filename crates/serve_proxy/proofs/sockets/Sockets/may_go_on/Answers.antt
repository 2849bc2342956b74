use Rattle.std.proofs.Common.{refl, sym, subst}
use Rattle.std.specs.Prelude.{IfSome}
use Rattle.serve_clients.specs.Holdings.{MayGoOn}
use Rattle.serve_proxy.proofs.Lent.{on_some, stay_lent}
use Rattle.serve_proxy.proofs.sockets.Sockets.may_go_on.Goals as goal

pub returns-in-Some : goal.returns-in-Some
returns-in-Some g c =
    let y = c.in-Some.client.now in
    record {
      ends = stay_lent c.args.self.now.clients (c.get_mut.follows.lender y) c.args.id y y (sym c.in-Some.ensures.value) refl (on_some c.get_mut.result c.in-Some.client _ c.in-Some.is (c.get_mut.follows.holds y));
      share = λ t. subst (λ o. IfSome o (MayGoOn c.args.self.now.stalls.share)) c.in-Some.ensures.value (c.may_go_on.ensures t);
    }
