-- What is to be sent goes on where its text does.
use Rattle.std.proofs.Common.{◌≡◌, ℕ, List, ◌++◌, ap, ◌∙◌, sym, append_assoc}
use Rattle.std.specs.List.{flat_map}
use Rattle.wire_parts.specs.Sending.{sending_bytes, bytes_of}
use Rattle.wire_parts.specs.declared.to_send.buffer.SendBuffer.{SendBuffer}

-- a buffer whose text grew, its pieces being as before, is to send these bytes more
pub text_grew : (old new : SendBuffer) (more : List ℕ) → new.pieces.items ≡ old.pieces.items → new.text.items ≡ old.text.items ++ more → bytes_of new ≡ bytes_of old ++ more
text_grew old new more pieces text =
    ap (λ ps. flat_map sending_bytes ps ++ new.text.items) pieces
    ∙ ap (λ (t : List ℕ). flat_map sending_bytes old.pieces.items ++ t) text
    ∙ sym (append_assoc (flat_map sending_bytes old.pieces.items) old.text.items more)

-- a buffer whose pieces and text are as before is to send what it was
pub text_kept : (old new : SendBuffer) → new.pieces.items ≡ old.pieces.items → new.text.items ≡ old.text.items → bytes_of new ≡ bytes_of old
text_kept old new pieces text =
    ap (λ ps. flat_map sending_bytes ps ++ new.text.items) pieces
    ∙ ap (λ (t : List ℕ). flat_map sending_bytes old.pieces.items ++ t) text
