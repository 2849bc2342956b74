use Rattle.std.proofs.Common.{refl, sym}
use Rattle.serve_proxy.proofs.Going.{one_goes, one_may_break, stays}
use Rattle.serve_proxy.proofs.Lent.{on_some}
use Rattle.serve_proxy.proofs.Staying.{stay_alike}
use Rattle.serve_proxy.proofs.sending.write_client.Goals as goal

pub returns-in-Some : goal.returns-in-Some
returns-in-Some g c = record { ends = λ core. one_goes c.args.id c.args.sockets.now.clients (c.get_mut.follows.lender c.send_once-is_more.new.client) c.in-Some.client.now c.send_once-is_more.new.client (sym c.in-Some.ensures.value) (on_some c.get_mut.result c.in-Some.client _ c.in-Some.is (c.get_mut.follows.holds c.send_once-is_more.new.client)) (one_may_break refl c.send_once-is_more.ensures.agrees c.send_once-is_more.ensures.number c.send_once-is_more.ensures.elsewhere c.send_once-is_more.ensures.broken) }

pub returns-in-None : goal.returns-in-None
returns-in-None g c = record { ends = λ core. stays core (stay_alike c.get_mut.follows.holds-at-none) }
