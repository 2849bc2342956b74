use Rattle.std.proofs.Common.{sym}
use Rattle.serve_links.specs.declared.calls.calls.SentCall.{SentCall}
use Rattle.serve_links.proofs.Story.{still_called}
use Rattle.serve_proxy.proofs.Going.{and_then, stays, called_due}
use Rattle.serve_proxy.proofs.Staying.{stay_links}
use Rattle.serve_proxy.proofs.Linking.{called_at, hindered_at}
use Rattle.serve_proxy.proofs.calls.send_looked.Goals as goal

pub refuse-requires : goal.refuse-requires
refuse-requires g c = hindered_at c.in-Err.why _ c.number-at.result c.last_millis.result _ (c.in-Err.ensures.refused c.last_millis.result)

pub returns-in-Err : goal.returns-in-Err
returns-in-Err g c = record {
  ends = and_then (still_called c.args.ticket.number c.args.ticket.server c.args.ticket.ask (c.takes_call-opened.ensures.ends c.args.sockets.now.clients c.args.core.now))
      (called_due c.args.ticket.number c.number-at.result c.args.ticket.server c.last_millis.result c.args.ticket.ask c.number-at.ensures c.last_millis.ensures c.refuse.ensures.ends);
}

pub returns-then-is_full : goal.returns-then-is_full
returns-then-is_full g c =
    let call : SentCall = record { ticket = c.args.ticket; client = c.args.id; since = c.last_millis.result; paced = c.pace.result; bulk = c.bulk_of-bulk.result; dialect = c.dialect_of.result } in
    record {
      ends = and_then (still_called c.args.ticket.number c.args.ticket.server c.args.ticket.ask (c.takes_call-opened.ensures.ends c.args.sockets.now.clients c.args.core.now))
          (called_at c.number-at.result call (sym c.number-at.ensures) c.last_millis.ensures c.in_default.ensures.there c.dialect_of.ensures c.let_wait.ensures.ends);
    }

pub returns : goal.returns
returns g c =
    let call : SentCall = record { ticket = c.args.ticket; client = c.args.id; since = c.last_millis.result; paced = c.pace.result; bulk = c.bulk_of-bulk.result; dialect = c.dialect_of.result } in
    record {
      ends = and_then
          (and_then (still_called c.args.ticket.number c.args.ticket.server c.args.ticket.ask (c.takes_call-opened.ensures.ends c.args.sockets.now.clients c.args.core.now))
          (called_at c.number-at.result call (sym c.number-at.ensures) c.last_millis.ensures c.in_default.ensures.there c.dialect_of.ensures c.begin_call.ensures.ends))
          (stays c.begin_call.new.core (stay_links _ _ _ _ c.mark_output.ensures.lines));
    }
