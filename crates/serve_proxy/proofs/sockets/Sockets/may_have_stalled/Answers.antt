use Rattle.std.proofs.Common.{refl, sym, true}
use Rattle.serve_proxy.proofs.Lent.{on_some, stay_lent}
use Rattle.serve_proxy.proofs.sockets.Sockets.may_have_stalled.Goals as goal

pub returns-then-not-has_stalled : goal.returns-then-not-has_stalled
returns-then-not-has_stalled g c =
    let x = c.in-Some.client.now in
    record { ends = stay_lent c.args.self.now.clients (c.get_mut.follows.lender x) c.args.id x x (sym c.in-Some.ensures.value) refl (on_some c.get_mut.result c.in-Some.client _ c.in-Some.is (c.get_mut.follows.holds x)) }

pub returns : goal.returns
returns g c =
    let x = c.in-Some.client.now in
    let y = record x { conn = record x.conn { writable = true } } in
    record { ends = stay_lent c.args.self.now.clients (c.get_mut.follows.lender y) c.args.id x y (sym c.in-Some.ensures.value) refl (on_some c.get_mut.result c.in-Some.client _ c.in-Some.is (c.get_mut.follows.holds y)) }
