use Rattle.std.proofs.Common.{refl, sym, ap, ◌∙◌}
use Rattle.wire_parts.specs.Sending.{bytes_of}
use Rattle.serve_proxy.proofs.Going.{one_then, one_same, one_may_break}
use Rattle.serve_proxy.proofs.serving.read_end.Goals as goal

pub returns-then-can_read : goal.returns-then-can_read
returns-then-can_read g c = record {
  one = λ id core.
      let x = c.args.client.now in
      let m = record x { conn = record x.conn { held = c.lend_input.new.held } } in
      one_then (one_same x m (ap (λ l. (x.conn.number, l, bytes_of x.conn.unsent, x.is_broken, x.is_ended)) (c.lend_input.ensures ∙ sym (c.can_read.ensures c.if-can_read.true).0)))
      (one_may_break refl c.read_once.ensures.agrees c.read_once.ensures.number c.read_once.ensures.elsewhere c.read_once.ensures.broken);
}

pub returns-else-can_read : goal.returns-else-can_read
returns-else-can_read g c = record { one = λ id core. one_same c.args.client.now c.args.client.now refl }
