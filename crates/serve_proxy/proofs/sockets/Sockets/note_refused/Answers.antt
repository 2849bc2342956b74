use Rattle.std.proofs.Common.{sym, ap}
use Rattle.serve_clients.specs.Agrees.{end_said_of}
use Rattle.serve_proxy.proofs.Lent.{on_some, stay_lent}
use Rattle.serve_proxy.proofs.sockets.Sockets.note_refused.Goals as goal

pub returns-in-Some : goal.returns-in-Some
returns-in-Some g c =
    let y = c.has_refused.new.self in
    record { ends = stay_lent c.args.self.now.clients (c.get_mut.follows.lender y) c.args.id c.in-Some.client.now y (sym c.in-Some.ensures.value) (ap end_said_of c.has_refused.ensures) (on_some c.get_mut.result c.in-Some.client _ c.in-Some.is (c.get_mut.follows.holds y)) }
