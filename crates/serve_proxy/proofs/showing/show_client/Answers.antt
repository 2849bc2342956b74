use Rattle.std.proofs.Common.{sym}
use Rattle.serve_proxy.proofs.Going.{and_then, stays, one_goes}
use Rattle.serve_proxy.proofs.Lent.{on_some}
use Rattle.serve_proxy.proofs.Staying.{stay_alike}
use Rattle.serve_proxy.proofs.showing.show_client.Goals as goal

pub returns : goal.returns
returns g c = record { ends = and_then (one_goes c.args.id c.args.sockets.now.clients (c.get_mut.follows.lender c.show_end-shown.new.client) c.in-Some.client.now c.show_end-shown.new.client (sym c.in-Some.ensures.value) (on_some c.get_mut.result c.in-Some.client _ c.in-Some.is (c.get_mut.follows.holds c.show_end-shown.new.client)) (c.show_end-shown.ensures.one _)) (stays c.show_end-shown.new.core c.note_shown.ensures.ends) }

pub returns-in_default : goal.returns-in_default
returns-in_default g c = record { ends = stays c.args.core.now (stay_alike c.get_mut.follows.holds-at-none) }
