use Rattle.std.proofs.Common.{sym}
use Rattle.serve_proxy.proofs.Going.{one_goes, stays}
use Rattle.serve_proxy.proofs.Lent.{on_some}
use Rattle.serve_proxy.proofs.Staying.{stay_alike}
use Rattle.serve_proxy.proofs.showing.exchange_at.Goals as goal

pub returns-in-Some : goal.returns-in-Some
returns-in-Some g c = record { ends = one_goes c.args.id c.args.sockets.now.clients (c.get_mut.follows.lender c.exchange_end.new.client) c.in-Some.client.now c.exchange_end.new.client (sym c.in-Some.ensures.value) (on_some c.get_mut.result c.in-Some.client _ c.in-Some.is (c.get_mut.follows.holds c.exchange_end.new.client)) (c.exchange_end.ensures.one _) }

pub returns-in_default : goal.returns-in_default
returns-in_default g c = record { ends = stays c.args.core.now (stay_alike c.get_mut.follows.holds-at-none) }
