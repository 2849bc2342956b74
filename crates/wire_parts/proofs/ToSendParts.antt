-- The first pieces of what is to be sent.
use Rattle.std.proofs.Common.{◌≡◌, ℕ, zero, suc, ◌<◌, List, [], ◌∷◌, ◌++◌, length, refl, sym, ap, arith, append_assoc, append-nil}
use Rattle.std.specs.Prelude.{slice_index_or}
use Rattle.std.specs.List.{flat_map}
use Rattle.wire_parts.specs.declared.to_send.piece.Piece.{Piece}
use Rattle.wire_parts.specs.Sending.{sending_bytes, part_at, BeginsWithBytes}

-- at the place of a piece
pub piece_at : (n : ℕ) (pieces : List Piece) (text : List ℕ) (piece : Piece) → n < length pieces → piece ≡ slice_index_or pieces n piece → part_at n pieces text ≡ sending_bytes piece
piece_at n [] text piece lt e = absurd (omega (arith, lt))
piece_at zero (p ∷ pieces) text piece lt e = ap sending_bytes (sym e)
piece_at (suc n) (p ∷ pieces) text piece lt e = piece_at n pieces text piece (omega (arith, lt)) e

-- after the pieces
pub text_at : (pieces : List Piece) (text : List ℕ) → part_at (length pieces) pieces text ≡ text
text_at [] text = refl
text_at (p ∷ pieces) text = text_at pieces text

-- after all
pub past_all : (n : ℕ) (pieces : List Piece) (text : List ℕ) → length pieces < n → part_at n pieces text ≡ []
past_all zero pieces text lt = absurd (omega (arith, lt))
past_all (suc n) [] text lt = refl
past_all (suc n) (p ∷ pieces) text lt = past_all n pieces text (omega (arith, lt))

-- the first four begin all
pub four_begin : (pieces : List Piece) (text : List ℕ) → BeginsWithBytes (part_at 0 pieces text ++ (part_at 1 pieces text ++ (part_at 2 pieces text ++ (part_at 3 pieces text ++ [])))) (flat_map sending_bytes pieces ++ text)
four_begin [] text = ([], simp append-nil)
four_begin (a ∷ []) text = ([], simp (append_assoc, append-nil))
four_begin (a ∷ b ∷ []) text = ([], simp (append_assoc, append-nil))
four_begin (a ∷ b ∷ c ∷ []) text = ([], simp (append_assoc, append-nil))
four_begin (a ∷ b ∷ c ∷ d ∷ more) text = (flat_map sending_bytes more ++ text, simp (append_assoc, append-nil))
