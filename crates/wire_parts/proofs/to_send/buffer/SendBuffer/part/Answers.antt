use Rattle.std.proofs.Common.{◌∙◌, sym}
use Rattle.std.proofs.lemmas.Bool.{ltb-true}
use Rattle.wire_parts.proofs.ToSendParts.{piece_at}
use Rattle.wire_parts.proofs.to_send.buffer.SendBuffer.part.Goals as goal

pub returns-in-Some : goal.returns-in-Some
returns-in-Some c = c.as_slice.ensures ∙ sym (piece_at c.args.at c.args.self.now.pieces.items c.args.self.now.text.items c.in-Some.piece.now (ltb-true _ _ (sym c.in-Some.ensures.item.0)) c.in-Some.ensures.lookup)
