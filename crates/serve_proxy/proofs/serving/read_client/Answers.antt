use Rattle.std.proofs.Common.{sym}
use Rattle.serve_proxy.proofs.Lent.{on_some}
use Rattle.serve_proxy.proofs.Staying.{stay_alike}
use Rattle.serve_proxy.proofs.Going.{stays, one_goes, one_then, one_breaking}
use Rattle.serve_proxy.proofs.serving.read_client.Goals as goal

pub returns : goal.returns
returns g c = record { ends = one_goes c.args.id c.args.sockets.now.clients (c.get_mut.follows.lender c.feed_end.new.client) c.in-Some.client.now c.feed_end.new.client (sym c.in-Some.ensures.value) (on_some c.get_mut.result c.in-Some.client _ c.in-Some.is (c.get_mut.follows.holds c.feed_end.new.client)) (one_then (one_breaking (c.read_end.ensures.one c.args.id c.args.core.now)) (c.feed_end.ensures.one _)) }

pub returns-in_default : goal.returns-in_default
returns-in_default g c = record { ends = stays c.args.core.now (stay_alike c.get_mut.follows.holds-at-none) }
