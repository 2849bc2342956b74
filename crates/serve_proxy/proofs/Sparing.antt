-- Of what is left in buffers that no client needs: of one more, and of one less.
use Rattle.std.proofs.Common.{◌≡◌, ℕ, List, [], ◌∷◌, ◌++◌, refl, sym, ap, ◌∙◌, append_assoc}
use Rattle.wire_parts.specs.declared.to_send.buffer.SendBuffer.{SendBuffer}
use Rattle.wire_parts.specs.Sending.{bytes_of}
use Rattle.serve_proxy.specs.Spares.{left_in}

left_of : (xs ys : List SendBuffer) → left_in (xs ++ ys) ≡ left_in xs ++ left_in ys
left_of [] ys = refl
left_of (x ∷ xs) ys = ap (λ l. bytes_of x ++ l) (left_of xs ys) ∙ sym (append_assoc (bytes_of x) (left_in xs) (left_in ys))

front_none : (xs ys : List ℕ) → xs ++ ys ≡ [] → xs ≡ []
front_none [] ys e = refl
front_none (x ∷ xs) ys e = absurd (some_none x (xs ++ ys) e)
  where
    some_none : (n : ℕ) (ns : List ℕ) → n ∷ ns ≡ [] → ⊥
    some_none n ns e = cc

pub one_more : (xs : List SendBuffer) (y : SendBuffer) → left_in xs ≡ [] → bytes_of y ≡ [] → left_in (xs ++ y ∷ []) ≡ []
one_more xs y none empty = left_of xs (y ∷ []) ∙ ap (λ l. l ++ left_in (y ∷ [])) none ∙ ap (λ l. l ++ []) empty

pub one_less : (xs : List SendBuffer) (y : SendBuffer) → left_in (xs ++ y ∷ []) ≡ [] → left_in xs ≡ []
one_less xs y none = front_none (left_in xs) (left_in (y ∷ [])) (sym (left_of xs (y ∷ [])) ∙ none)
