use Rattle.std.proofs.Common.{refl}
use Rattle.serve_proxy.proofs.Going.{and_then, refused_go, stays}
use Rattle.serve_proxy.proofs.Refusing.{refusal_goes}
use Rattle.serve_proxy.proofs.Staying.{stay_clients, stay_links}
use Rattle.serve_proxy.proofs.calls.refuse.Goals as goal

pub returns : goal.returns
returns g c =
    let core = c.fail_call.new.core in
    let call = c.args.it.call in
    let noted = refusal_goes (g.W.Wire.history c.args.sockets.now.wire) c.args.sockets.now.clients c.args.sockets.now.links.all.items call.ticket.number c.args.at call.since c.args.it.why c.args.core.now c.args.core.now refl c.requires in
    record {
      ends = and_then noted
          (and_then (and_then (refused_go call.ticket.number c.args.at call.since c.args.core.now core c.fail_call.ensures) (stays core (stay_links _ _ _ _ c.note_unsent.ensures.lines))) (stays core (stay_clients _ _ _ _ c.mark_settled.ensures.ends)));
    }
