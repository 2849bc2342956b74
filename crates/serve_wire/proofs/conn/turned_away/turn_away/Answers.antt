use Rattle.std.proofs.Common.{sym, ap, subst}
use Rattle.serve_wire.specs.Agreement.{TouchesOnly}
use Rattle.serve_wire.proofs.Steps.{only_twice}
use Rattle.serve_wire.proofs.Touching.{only_same, only_read, only_written, only_closed}
use Rattle.serve_wire.proofs.conn.turned_away.turn_away.Goals.{then-is_ok, else-is_ok}
use Rattle.serve_wire.proofs.conn.turned_away.turn_away.Goals as goal

pub returns-clause-only : goal.returns-clause-only
returns-clause-only g c =
    let conn = c.args.conn in
    let h = g.W.Wire.history c.args.wire.now in
    let m = g.W.Wire.history c.if-is_ok.wire in
    let n = g.W.Wire.history c.write.new.self in
    let h' = g.W.Wire.history c.close.new.self in
    let first : TouchesOnly conn h m =
    elim c.if-is_ok.branch [
      | then-is_ok w ↦ subst (λ x. TouchesOnly conn h (g.W.Wire.history x)) (sym w.wire-is) (only_read conn _ _ _ _ _ h _ w.read.ensures)
      | else-is_ok w ↦ only_same conn h m (ap (λ x. g.W.Wire.history x) w.wire-is)
    ] in
    only_twice conn h m h' first (only_twice conn m n h' (only_written conn _ _ m n c.write.ensures) (only_closed conn n h' c.close.ensures))
