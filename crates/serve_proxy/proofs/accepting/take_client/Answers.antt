use Rattle.std.proofs.Common.{ap, ◌∙◌}
use Rattle.serve_wire.specs.Events.{role}
use Rattle.serve_wire.proofs.Steps.{only_twice}
use Rattle.serve_proxy.proofs.Going.{and_then, failing, quietly_go, by_not_opened}
use Rattle.serve_proxy.proofs.Told.{accepted_only, new_touched}
use Rattle.serve_proxy.proofs.accepting.take_client.Goals as goal

pub returns-in-Ok : goal.returns-in-Ok
returns-in-Ok g c = record { ends = c.keep_client.ensures.ends c.args.core.now (c.in-Ok.ensures.ok.0, c.in-Ok.ensures.ok.1, c.in-Ok.ensures.opened) }

pub returns-in-Err : goal.returns-in-Err
returns-in-Err g c = record {
  ends = λ h new is.
      let h1 = g.W.Wire.history c.args.sockets.now.wire in
      let h' = g.W.Wire.history c.turn_away.new.wire in
      and_then (quietly_go (by_not_opened _ c.args.core.now c.open_client.new.self c.in-Err.ensures.err c.in-Err.ensures.refused))
      (failing (new_touched c.args.conn new.no_role (c.turn_away.ensures.role ∙ ap (role c.args.conn) is ∙ new.no_role) c.turn_away.ensures.shut (only_twice c.args.conn h h1 h' (accepted_only c.args.conn h h1 is) c.turn_away.ensures.only) c.open_client.new.self));
}
