-- Loops that read or write each of a list.
use Rattle.std.proofs.Common.{◌≡◌, ℕ, zero, suc, ◌+◌, ◌<◌, ◌≤◌, List, [], ◌∷◌, ◌++◌, length, take, map, get_or, Option, Some, None, option_map, option_and_then, Result, Ok, Err, refl, sym, ap, ◌∙◌, subst, arith}
use Rattle.std.proofs.lemmas.List.{map_push, take_more}
use Rattle.std.specs.Prelude.{IsErrAnd}
use Rattle.serde_json.specs.Data.{Data, items_depth, depth}
use Rattle.serde_json.specs.View.{view, items_view}
use Rattle.serde_json.specs.declared.value.Value.{Value}
use Rattle.gate_certificate.specs.declared.fault.CertificateFault.{CertificateFault}
use Rattle.gate_certificate.specs.declared.fault.CertificateFault.TheVariants as faults
use Rattle.gate_certificate.specs.Format.{IsNothing, ReadsCertificate, each_in}

-- one longer by one more
pub taken : {X : Type 0} (xs : List X) (i : ℕ) (x : X) → i < length xs → x ≡ get_or xs i x → take (i + 1) xs ≡ take i xs ++ x ∷ []
taken xs i x lt at = take_more xs i x lt ∙ ap (λ y. take i xs ++ y ∷ []) (sym at)

-- the same of what each of them comes to
pub mapped_taken : {X Y : Type 0} (g : X → Y) (xs : List X) (i : ℕ) (x : X) → i < length xs → x ≡ get_or xs i x → map g (take (i + 1) xs) ≡ map g (take i xs) ++ g x ∷ []
mapped_taken g xs i x lt at = ap (map g) (taken xs i x lt at) ∙ map_push g (take i xs) x

-- of a vector
pub mapped_pushed : {X Y : Type 0} (g : X → Y) (old new : List X) (x : X) → new ≡ old ++ x ∷ [] → map g new ≡ map g old ++ g x ∷ []
mapped_pushed g old new x is = ap (map g) is ∙ map_push g old x

-- a fault is passed on
nothing_of : {Y Z : Type 0} (fault : CertificateFault) (o : Option Y) (p : Option Z) → IsNothing fault o → (o ≡ None → p ≡ None) → IsNothing fault p
nothing_of (faults.NotJson line column) o p h f = f h
nothing_of faults.BadWhole o p h f = f h
nothing_of (faults.BadClass class) o p h f = f h
nothing_of (faults.BadRun class run) o p h f = f h
nothing_of faults.NoMemory o p h f = tt

pub passed : {X Y Z : Type 0} (seen : X → Y) (r : Result X CertificateFault) (fault : CertificateFault) (o : Option Z) (p : Option Y) → IsErrAnd r (λ f. f ≡ fault) → IsNothing fault o → (o ≡ None → p ≡ None) → ReadsCertificate seen r p
passed seen (Ok x) fault o p is h f = absurd is
passed seen (Err e) fault o p is h f = subst (λ (d : CertificateFault). IsNothing d p) (sym is) (nothing_of fault o p h f)

module _ {A : Type 0} (f : Data → Option A) where
  abbrev cons_in : Option A → Option (List A) → Option (List A)
  cons_in a rest = option_and_then (λ x. option_map (λ xs. x ∷ xs) rest) a

  some_is : (a b : List A) → Some a ≡ Some b → a ≡ b
  some_is a b e = cc

  cons_more : (a : Option A) (rest more : Option (List A)) (xs : List A) (x : A) → cons_in a rest ≡ Some xs → ((l : List A) → rest ≡ Some l → more ≡ Some (l ++ x ∷ [])) → cons_in a more ≡ Some (xs ++ x ∷ [])
  cons_more None rest more xs x e h = absurd (cc)
  cons_more (Some a) None more xs x e h = absurd (cc)
  cons_more (Some a) (Some l) more xs x e h = ap (cons_in (Some a)) (h l refl) ∙ ap (λ k. Some (k ++ x ∷ [])) (some_is (a ∷ l) xs e)

  each_more : (vs : List Value) (v : Value) (xs : List A) (x : A) → each_in f (items_view vs) ≡ Some xs → f (view v) ≡ Some x → each_in f (items_view (vs ++ v ∷ [])) ≡ Some (xs ++ x ∷ [])
  each_more [] v xs x e h = ap (λ o. cons_in o (Some [])) h ∙ ap (λ k. Some (k ++ x ∷ [])) (some_is [] xs e)
  each_more (w ∷ ws) v xs x e h = cons_more (f (view w)) (each_in f (items_view ws)) (each_in f (items_view (ws ++ v ∷ []))) xs x e (λ l k. each_more ws v l x k h)

  none_left : (a : Option A) → cons_in a None ≡ None
  none_left None = refl
  none_left (Some a) = refl

  -- one that says nothing
  pub each_none : (vs : List Value) (i : ℕ) (v : Value) → i < length vs → v ≡ get_or vs i v → f (view v) ≡ None → each_in f (items_view vs) ≡ None
  each_none [] i v lt at h = absurd (omega (arith, lt))
  each_none (w ∷ ws) zero v lt at h = ap (λ o. cons_in o (each_in f (items_view ws))) (ap (λ u. f (view u)) (sym at) ∙ h)
  each_none (w ∷ ws) (suc i) v lt at h = ap (cons_in (f (view w))) (each_none ws i v (omega (arith, lt)) at h) ∙ none_left (f (view w))

  -- the next one is read
  pub read_more : (vs : List Value) (i : ℕ) (v : Value) (xs ys : List A) (x : A) → each_in f (items_view (take i vs)) ≡ Some xs → i < length vs → v ≡ get_or vs i v → f (view v) ≡ Some x → ys ≡ xs ++ x ∷ [] → each_in f (items_view (take (i + 1) vs)) ≡ Some ys
  read_more vs i v xs ys x e lt at h is =
      ap (λ l. each_in f (items_view l)) (taken vs i v lt at) ∙ each_more (take i vs) v xs x e h ∙ ap (λ l. Some l) (sym is)

  -- the values that were written so far, no deeper than that
  abbrev pub AreWritten : ℕ → List Value → List A → Type 0
  AreWritten n vs xs = (each_in f (items_view vs) ≡ Some xs) × (items_depth (items_view vs) ≤ n)

  deeper : (vs : List Value) (v : Value) (n : ℕ) → items_depth (items_view vs) ≤ n → depth (view v) ≤ n → items_depth (items_view (vs ++ v ∷ [])) ≤ n
  deeper [] v n h k = omega (arith, k)
  deeper (w ∷ ws) v n h k = let d = deeper ws v n (omega (arith, h)) k in omega (arith, d, h)

  pub written_more : (n : ℕ) (vs ws : List Value) (v : Value) (xs ys : List A) (x : A) → AreWritten n vs xs → f (view v) ≡ Some x → depth (view v) ≤ n → ws ≡ vs ++ v ∷ [] → ys ≡ xs ++ x ∷ [] → AreWritten n ws ys
  written_more n vs ws v xs ys x e h d is more = (
    ap (λ l. each_in f (items_view l)) is ∙ each_more vs v xs x e.0 h ∙ ap (λ l. Some l) (sym more),
    subst (λ l. items_depth (items_view l) ≤ n) (sym is) (deeper vs v n e.1 d),
  )
