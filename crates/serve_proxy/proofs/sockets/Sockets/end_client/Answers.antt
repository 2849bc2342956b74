use Rattle.std.proofs.Common.{refl, sym, ap}
use Rattle.serve_wire.proofs.Steps.{untouched}
use Rattle.serve_clients.specs.declared.clients.Client.{Client}
use Rattle.serve_proxy.proofs.Going.{one_goes, one_touched}
use Rattle.serve_proxy.proofs.Told.{ended_agrees}
use Rattle.serve_proxy.proofs.Lent.{on_some}
use Rattle.serve_proxy.proofs.Staying.{stay_alike}
use Rattle.serve_proxy.proofs.Going.{stay_go}
use Rattle.serve_proxy.proofs.sockets.Sockets.end_client.Goals as goal

pub returns-in-Some : goal.returns-in-Some
returns-in-Some g c =
    let x = c.in-Some.client.now in
    let y = c.end.new.self in
    record { ends = λ core. one_goes c.args.id c.args.self.now.clients (c.get_mut.follows.lender y) x y (sym c.in-Some.ensures.value) (on_some c.get_mut.result c.in-Some.client _ c.in-Some.is (c.get_mut.follows.holds y)) (one_touched refl (ended_agrees _ x y c.end.ensures) (ap (λ (z : Client). z.conn.number) c.end.ensures) (λ d other. untouched d _) (ap (λ (z : Client). z.is_broken) c.end.ensures)) }

pub returns-in_default : goal.returns-in_default
returns-in_default g c = record { ends = stay_go (stay_alike c.get_mut.follows.holds-at-none) }
