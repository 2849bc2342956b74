-- The least recently used items are lost, one after another.
use Rattle.std.proofs.Common.{◌≡◌, ℕ, ◌-◌, ◌<◌, ◌≤◌, suc, List, [], ◌∷◌, ◌++◌, length, take, drop, Option, Some, None, slice_get, get_or, refl, sym, ap, ap₂, ◌∙◌, subst, arith, append_assoc, append-nil, if◌then◌else◌}
use Rattle.std.specs.Map.{keys_of}
use Rattle.std.proofs.lemmas.List.{take-append-drop, drop_all, length-take-le}
use Rattle.std.proofs.lemmas.Option.{slice_get_within, slice_get-get_or}
use Rattle.std.proofs.Math.Seq.{drop-cons}
use Rattle.mc_types.specs.Items.{Item}
use Rattle.cache_server.specs.Contents.{Contents, Key, same_key}
use Rattle.cache_server.specs.Held.{holds, without, IsLoss}
use Rattle.cache_tcp.specs.Oldest.{LosesOldest}

-- nothing is lost
pub loses_none : (sizes : List (Key × ℕ)) (c : Contents) → LosesOldest sizes c sizes c
loses_none sizes c = record { gone = []; sizes_are = sym (append-nil sizes); lost = λ q. refl }

some_is : {A : Type 0} (a b : A) → Some a ≡ Some b → a ≡ b
some_is a b e = cc

-- a list with its last entry apart
last_apart : (es : List (Key × ℕ)) (e : Key × ℕ) → Some e ≡ slice_get es (length es - 1) → es ≡ take (length es - 1) es ++ e ∷ []
last_apart es e h =
    let i : ℕ = length es - 1 in
    let within = slice_get_within es i e (sym h) in
    let all : length es ≤ suc i = omega (arith, within) in
    let here : get_or es i e ≡ e = some_is (get_or es i e) e (sym (slice_get-get_or es i e within) ∙ sym h) in
    sym (take-append-drop i es) ∙ ap (λ (l : List (Key × ℕ)). take i es ++ l) (drop-cons es i e within ∙ ap₂ (λ (x : Key × ℕ) (l : List (Key × ℕ)). x ∷ l) here (drop_all (suc i) es all))

-- one more is lost
pub loses_one : (sizes front rest : List (Key × ℕ)) (e : Key × ℕ) (c d x : Contents) → LosesOldest sizes c front d → Some e ≡ slice_get front (length front - 1) → rest ≡ take (length front - 1) front → IsLoss (e.0 ∷ []) d x → LosesOldest sizes c rest x
loses_one sizes front rest e c d x l last is loss =
    record {
      gone = e ∷ l.gone;
      sizes_are = l.sizes_are ∙ ap (λ (es : List (Key × ℕ)). es ++ l.gone) (last_apart front e last) ∙ append_assoc (take (length front - 1) front) (e ∷ []) l.gone ∙ ap (λ (es : List (Key × ℕ)). es ++ e ∷ l.gone) (sym is);
      lost = λ q. loss q ∙ ap (λ (o : Option Item). if same_key e.0 q then None else o) (l.lost q);
    }

-- no entry is the last one of no list
pub none_left : (es rest : List (Key × ℕ)) → None ≡ slice_get es (length es - 1) → rest ≡ take (length es - 1) es → rest ≡ []
none_left [] rest h is = is
none_left (e ∷ es) rest h is =
    let within : length (e ∷ es) - 1 < length (e ∷ es) = omega arith in
    absurd (none_is_some (get_or (e ∷ es) (length (e ∷ es) - 1) e) (h ∙ slice_get-get_or (e ∷ es) (length (e ∷ es) - 1) e within))
  where
    none_is_some : (a : Key × ℕ) → None ≡ Some a → ⊥
    none_is_some a e = cc

-- nor is any taken from none
pub none_taken : (es rest : List (Key × ℕ)) → None ≡ slice_get es (length es - 1) → rest ≡ take (length es - 1) es → rest ≡ es
none_taken [] rest h is = is
none_taken (e ∷ es) rest h is =
    let within : length (e ∷ es) - 1 < length (e ∷ es) = omega arith in
    absurd (none_is_some (get_or (e ∷ es) (length (e ∷ es) - 1) e) (h ∙ slice_get-get_or (e ∷ es) (length (e ∷ es) - 1) e within))
  where
    none_is_some : (a : Key × ℕ) → None ≡ Some a → ⊥
    none_is_some a e = cc

pub loses_still : (sizes front rest : List (Key × ℕ)) (c d : Contents) → LosesOldest sizes c front d → None ≡ slice_get front (length front - 1) → rest ≡ take (length front - 1) front → LosesOldest sizes c rest d
loses_still sizes front rest c d l h is = subst (λ (es : List (Key × ℕ)). LosesOldest sizes c es d) (sym (none_taken front rest h is)) l

-- fewer are left
pub fewer_left : (front rest : List (Key × ℕ)) (e : Key × ℕ) → Some e ≡ slice_get front (length front - 1) → rest ≡ take (length front - 1) front → length rest < length front
fewer_left front rest e h is =
    let within = slice_get_within front (length front - 1) e (sym h) in
    let le : length front - 1 ≤ length front = omega arith in
    let len : length rest ≡ length front - 1 = ap (λ (es : List (Key × ℕ)). length es) is ∙ length-take-le (length front - 1) front le in
    omega (arith, within, len)
