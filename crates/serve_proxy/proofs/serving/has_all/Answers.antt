use Rattle.std.proofs.Common.{sym, subst}
use Rattle.std.specs.Prelude.{IfSome}
use Rattle.serve_proxy.specs.Ends.{IsAllSent}
use Rattle.serve_proxy.proofs.Going.{one_goes, one_given, stays}
use Rattle.serve_proxy.proofs.Lent.{on_some, lent_here}
use Rattle.serve_proxy.proofs.Staying.{stay_alike}
use Rattle.serve_proxy.proofs.serving.has_all.Goals as goal

pub returns-in-Some : goal.returns-in-Some
returns-in-Some g c =
    let s = c.args.sockets.now.clients in
    let x = c.in-Some.client.now in
    let y = c.end_has_all.new.client in
    let n = c.get_mut.follows.lender y in
    let was = sym c.in-Some.ensures.value in
    let is = on_some c.get_mut.result c.in-Some.client _ c.in-Some.is (c.get_mut.follows.holds y) in
    record {
      ends = one_goes c.args.id s n x y was is (c.end_has_all.ensures.one _);
      given = λ all. one_given c.args.id s n x y was is (c.end_has_all.ensures.given all _);
      sent = λ all. subst (λ o. IfSome o IsAllSent) (sym (lent_here s n c.args.id x y was is)) (c.end_has_all.ensures.sent all);
    }

pub returns-in-None : goal.returns-in-None
returns-in-None g c = record { ends = stays c.args.core.now (stay_alike c.get_mut.follows.holds-at-none); given = λ all. absurd cc; sent = λ all. absurd cc }
