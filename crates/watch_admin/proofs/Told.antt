-- Numbers and families that were added stay, and what they tell with them.
use Rattle.std.proofs.Common.{◌≡◌, ◌∙◌, List, [], ◌∷◌, ◌++◌, ℕ, ap, sym, subst, append_assoc, map as each}
use Rattle.std.proofs.lemmas.List.{map-append}
use Rattle.watch_admin.specs.declared.families.Family.{Family}
use Rattle.watch_admin.specs.declared.families.Sample.{Sample}
use Rattle.watch_admin.specs.Told.{Labelled, sample_read, AreNumbers, Tells, AddsTo, IsAmong}

-- one more was added
pub one_more : (old new : List Family) (family : Family) → new ≡ old ++ family ∷ [] → AddsTo old new
one_more old new family is = record { more = family ∷ []; adds = is }

-- some, and then some
pub more_then : (a b c : List Family) → AddsTo a b → AddsTo b c → AddsTo a c
more_then a b c x y = record { more = x.more ++ y.more; adds = y.adds ∙ ap (λ l. l ++ y.more) x.adds ∙ append_assoc a x.more y.more }

-- the last is among them
pub last_is_among : (Is : Family → Type 0) (old new : List Family) (family : Family) → new ≡ old ++ family ∷ [] → Is family → IsAmong Is new
last_is_among Is old new family parts is = record { before = old; family = family; after = []; parts = parts; is = is }

-- which of them was among them is so where more were added
pub stays_among : (Is : Family → Type 0) (old new : List Family) → IsAmong Is old → AddsTo old new → IsAmong Is new
stays_among Is old new x y =
    record { before = x.before; family = x.family; after = x.after ++ y.more; parts = y.adds ∙ ap (λ l. l ++ y.more) x.parts ∙ append_assoc x.before (x.family ∷ x.after) y.more; is = x.is }

-- one more number
pub one_read : (old new : List Sample) (sample : Sample) (number : Labelled) → new ≡ old ++ sample ∷ [] → sample_read sample ≡ number
    → each sample_read new ≡ each sample_read old ++ number ∷ []
one_read old new sample number parts is = ap (each sample_read) parts ∙ map-append sample_read old (sample ∷ []) ∙ ap (λ n. each sample_read old ++ n ∷ []) is

-- four more
pub four_more : (x y z u v : List Labelled) (a b c d : Labelled) → y ≡ x ++ a ∷ [] → z ≡ y ++ b ∷ [] → u ≡ z ++ c ∷ [] → v ≡ u ++ d ∷ []
    → v ≡ x ++ a ∷ b ∷ c ∷ d ∷ []
four_more x y z u v a b c d first second third last =
    last
    ∙ ap (λ l. l ++ d ∷ []) (third ∙ ap (λ l. l ++ c ∷ []) (second ∙ ap (λ l. l ++ b ∷ []) first ∙ append_assoc x (a ∷ []) (b ∷ [])) ∙ append_assoc x (a ∷ b ∷ []) (c ∷ []))
    ∙ append_assoc x (a ∷ b ∷ c ∷ []) (d ∷ [])

-- three more
pub three_more : (x y z u : List Labelled) (a b c : Labelled) → y ≡ x ++ a ∷ [] → z ≡ y ++ b ∷ [] → u ≡ z ++ c ∷ [] → u ≡ x ++ a ∷ b ∷ c ∷ []
three_more x y z u a b c first second third =
    third ∙ ap (λ l. l ++ c ∷ []) (second ∙ ap (λ l. l ++ b ∷ []) first ∙ append_assoc x (a ∷ []) (b ∷ [])) ∙ append_assoc x (a ∷ b ∷ []) (c ∷ [])

-- the numbers of a family, said otherwise
pub told_as : (name : List ℕ) (said numbers : List Labelled) (family : Family) → said ≡ numbers → Tells name said family → Tells name numbers family
told_as name said numbers family is tells = subst (λ n. Tells name n family) is tells
