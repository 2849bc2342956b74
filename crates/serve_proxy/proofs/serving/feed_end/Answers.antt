use Rattle.std.proofs.Common.{ap}
use Rattle.wire_parts.specs.Sending.{bytes_of}
use Rattle.serve_proxy.proofs.Going.{one_then, one_same, one_fed}
use Rattle.serve_proxy.proofs.serving.feed_end.Goals as goal

pub returns : goal.returns
returns c = record {
  one = λ h.
      let x = c.feed_held.new.client in
      let y = c.note_fed.new.client in
      one_then (one_then (one_fed c.args.client.now x c.feed_held.ensures.held) (one_same x y c.note_fed.ensures.said)) (one_same y (record y { conn = record y.conn { held = c.take_input.new.held } }) (ap (λ l. (y.conn.number, l, bytes_of y.conn.unsent, y.is_broken, y.is_ended)) c.take_input.ensures));
}
