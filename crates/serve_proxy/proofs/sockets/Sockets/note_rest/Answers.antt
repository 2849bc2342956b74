use Rattle.std.proofs.Common.{sym}
use Rattle.serve_proxy.proofs.Lent.{on_some, stay_lent}
use Rattle.serve_proxy.proofs.sockets.Sockets.note_rest.Goals as goal

pub returns-in-Some : goal.returns-in-Some
returns-in-Some g c =
    let y = c.note_rest.new.client in
    record { ends = stay_lent c.args.self.now.clients (c.get_mut.follows.lender y) c.args.id c.in-Some.client.now y (sym c.in-Some.ensures.value) c.note_rest.ensures.said (on_some c.get_mut.result c.in-Some.client _ c.in-Some.is (c.get_mut.follows.holds y)) }
