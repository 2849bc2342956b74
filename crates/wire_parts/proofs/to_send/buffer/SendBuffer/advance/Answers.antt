use Rattle.wire_parts.specs.Sending.{sending_bytes}
use Rattle.std.proofs.Common.{arith, ◌∙◌}
use Rattle.wire_parts.proofs.Pieces.{gone}
use Rattle.wire_parts.proofs.to_send.buffer.SendBuffer.advance.Goals as goal

pub loop-piece-preserved : goal.loop-piece-preserved
loop-piece-preserved c =
    let step = gone sending_bytes c.loop-piece.self.pieces.items c.pop_front.new.self.items c.in-Some.piece c.loop-piece.self.text.items c.loop-piece.left c.len-len.result c.in-Some.ensures.items c.len-len.ensures (omega arith) c.loop-piece.invariant.0 in
    (step.0, step.1 ∙ c.loop-piece.invariant.1)
