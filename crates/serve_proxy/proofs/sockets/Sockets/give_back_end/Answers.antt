use Rattle.std.proofs.Common.{sym, ap, ◌∙◌}
use Rattle.wire_parts.specs.Sending.{bytes_of}
use Rattle.serve_wire.specs.declared.conn.conn.Conn.{Conn}
use Rattle.serve_proxy.proofs.Lent.{on_some, stay_lent}
use Rattle.serve_proxy.proofs.sockets.Sockets.give_back_end.Goals as goal

pub returns-in-Some : goal.returns-in-Some
returns-in-Some g c =
    let x = c.in-Some.client.now in
    let d = c.give_back.new.self in
    let y = record x { conn = d } in
    record { ends = stay_lent c.args.self.now.clients (c.get_mut.follows.lender y) c.args.id x y (sym c.in-Some.ensures.value) (ap (λ n. (n, d.held.items, bytes_of d.unsent, x.is_broken, x.is_ended)) (ap (λ (z : Conn). z.number) c.give_back.ensures.rest) ∙ ap (λ l. (x.conn.number, l, bytes_of d.unsent, x.is_broken, x.is_ended)) c.give_back.ensures.held ∙ ap (λ l. (x.conn.number, x.conn.held.items, l, x.is_broken, x.is_ended)) c.give_back.ensures.unsent) (on_some c.get_mut.result c.in-Some.client _ c.in-Some.is (c.get_mut.follows.holds y)) }
