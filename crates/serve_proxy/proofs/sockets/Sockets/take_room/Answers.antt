use Rattle.std.proofs.Common.{sym, ap, ◌∙◌}
use Rattle.serve_clients.specs.Agrees.{end_said_of}
use Rattle.serve_proxy.proofs.Lent.{on_some, stay_lent}
use Rattle.serve_proxy.proofs.sockets.Sockets.take_room.Goals as goal

pub returns-in-Some : goal.returns-in-Some
returns-in-Some g c =
    let x = c.in-Some.client.now in
    let y = c.take_room.new.client in
    record { ends = stay_lent c.args.self.now.clients (c.get_mut.follows.lender y) c.args.id x y (sym c.in-Some.ensures.value) (ap end_said_of c.take_room.ensures.rest ∙ ap (λ l. (x.conn.number, x.conn.held.items, l, x.is_broken, x.is_ended)) c.take_room.ensures.unsent) (on_some c.get_mut.result c.in-Some.client _ c.in-Some.is (c.get_mut.follows.holds y)) }
