use Rattle.std.proofs.Common.{sym, subst}
use Rattle.serve_links.specs.Lines.{ReadsAway}
use Rattle.serve_links.proofs.Away.{reads_away, unread_away}
use Rattle.serve_links.proofs.link.read_away.Goals as goal

pub returns-in-Ok : goal.returns-in-Ok
returns-in-Ok g c = record {
  reads = (
    c.read_once.ensures.rest.0,
    subst (λ o. ReadsAway o c.args.conn.now.number (g.W.Wire.history c.args.wire.now) (g.W.Wire.history c.read_once.new.wire)) (sym c.ended_by.ensures)
        (reads_away c.args.conn.now.number _ _ _ c.in-Ok.got _ _ c.clear.ensures.items c.in-Ok.ensures.ok),
  );
}

pub returns-in-Err : goal.returns-in-Err
returns-in-Err g c = record { reads = (c.read_once.ensures.rest.0, unread_away c.args.conn.now.number _ _ c.in-Err.ensures.err.1) }
