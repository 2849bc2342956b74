-- What a server answered and what it is still to apply, beside the calls that were asked there.
use Rattle.std.proofs.Common.{◌≡◌, ℕ, List, [], ◌∷◌, ◌++◌, inl, inr, ⊎_elim, refl, sym, ◌∙◌, subst}
use Rattle.mc_types.specs.declared.answer.Answer.{Answer}
use Rattle.fresh_runs.specs.Overlap.{Ticket}
use Rattle.serve_links.specs.Talks.{SaidAsk, IsAmong, IsNotAmong}
use Rattle.fresh_theory.specs.Spelled.{GivenAnswer}

-- `P n a`: a call of number n was answered so, and isn't settled yet
module _ (P : ℕ → Answer → Type 0) where
  -- of the calls that are out there the first were answered, if they were, as is given, and the others weren't
  abbrev pub Out : List SaidAsk → List GivenAnswer → List Ticket → Type 0
  Out [] [] [] = Unit {0}
  Out [] [] (t ∷ ts) = ⊥
  Out [] (u ∷ us) ts = ⊥
  Out (x ∷ xs) (u ∷ us) ts = (u.0 ≡ x.0) × ((a : Answer) → P x.0 a → a ≡ u.1) × Out xs us ts
  Out (x ∷ xs) [] (t ∷ ts) = (t.number ≡ x.0) × ((a : Answer) → P x.0 a → ⊥) × Out xs [] ts
  Out (x ∷ xs) [] [] = ⊥

  -- before them stand those that are late
  abbrev pub Stand : (late out : List SaidAsk) → List GivenAnswer → List Ticket → Type 0
  Stand [] out us ts = Out out us ts
  Stand (x ∷ late) out (u ∷ us) ts = (u.0 ≡ x.0) × IsNotAmong x.0 out × Stand late out us ts
  Stand (x ∷ late) out [] (t ∷ ts) = (t.number ≡ x.0) × IsNotAmong x.0 out × Stand late out [] ts
  Stand (x ∷ late) out [] [] = ⊥

-- no two of them have one number
abbrev pub AreApart : List SaidAsk → Type 0
AreApart [] = Unit {0}
AreApart (x ∷ xs) = IsNotAmong x.0 xs × AreApart xs

pub not_among : {A : Type 0} (n : ℕ) (xs : List SaidAsk) → IsAmong n xs → IsNotAmong n xs → A
not_among n [] is not = absurd is
not_among n (x ∷ xs) is not = ⊎_elim (λ here. absurd (not.0 here)) (λ there. not_among n xs there not.1) is

-- where less was answered so
out_map : (P Q : ℕ → Answer → Type 0) (xs : List SaidAsk) (us : List GivenAnswer) (ts : List Ticket) → ((n : ℕ) (a : Answer) → IsAmong n xs → Q n a → P n a) → Out P xs us ts → Out Q xs us ts
out_map P Q [] [] [] less h = tt
out_map P Q [] [] (t ∷ ts) less h = absurd h
out_map P Q [] (u ∷ us) ts less h = absurd h
out_map P Q (x ∷ xs) (u ∷ us) ts less h = (h.0, (λ a q. h.1 a (less x.0 a (inl refl) q)), out_map P Q xs us ts (λ n a m q. less n a (inr m) q) h.2)
out_map P Q (x ∷ xs) [] (t ∷ ts) less h = (h.0, (λ a q. h.1 a (less x.0 a (inl refl) q)), out_map P Q xs [] ts (λ n a m q. less n a (inr m) q) h.2)
out_map P Q (x ∷ xs) [] [] less h = absurd h

pub stand_map : (P Q : ℕ → Answer → Type 0) (late out : List SaidAsk) (us : List GivenAnswer) (ts : List Ticket) → ((n : ℕ) (a : Answer) → IsAmong n out → Q n a → P n a) → Stand P late out us ts → Stand Q late out us ts
stand_map P Q [] out us ts less h = out_map P Q out us ts less h
stand_map P Q (x ∷ late) out (u ∷ us) ts less h = (h.0, h.1, stand_map P Q late out us ts less h.2)
stand_map P Q (x ∷ late) out [] (t ∷ ts) less h = (h.0, h.1, stand_map P Q late out [] ts less h.2)
stand_map P Q (x ∷ late) out [] [] less h = absurd h

-- one more is asked, which wasn't answered
pub out_asked : (P : ℕ → Answer → Type 0) (xs : List SaidAsk) (us : List GivenAnswer) (ts : List Ticket) (x : SaidAsk) (t : Ticket) → t.number ≡ x.0 → ((a : Answer) → P x.0 a → ⊥) → Out P xs us ts → Out P (xs ++ x ∷ []) us (ts ++ t ∷ [])
out_asked P [] [] [] x t same none h = (same, none, tt)
out_asked P [] [] (s ∷ ts) x t same none h = absurd h
out_asked P [] (u ∷ us) ts x t same none h = absurd h
out_asked P (y ∷ xs) (u ∷ us) ts x t same none h = (h.0, h.1, out_asked P xs us ts x t same none h.2)
out_asked P (y ∷ xs) [] (s ∷ ts) x t same none h = (h.0, h.1, out_asked P xs [] ts x t same none h.2)
out_asked P (y ∷ xs) [] [] x t same none h = absurd h

-- what is still to be applied is out
pub out_has : (P : ℕ → Answer → Type 0) (xs : List SaidAsk) (us : List GivenAnswer) (t : Ticket) (ts : List Ticket) → Out P xs us (t ∷ ts) → IsAmong t.number xs
out_has P [] [] t ts h = absurd h
out_has P [] (u ∷ us) t ts h = absurd h
out_has P (x ∷ xs) (u ∷ us) t ts h = inr (out_has P xs us t ts h.2)
out_has P (x ∷ xs) [] t ts h = inl (sym h.0)

-- the first is applied, and answered so
out_applied :
    (P Q : ℕ → Answer → Type 0) (xs : List SaidAsk) (us : List GivenAnswer) (t : Ticket) (ts : List Ticket) (answer : Answer) → AreApart xs
    → ((n : ℕ) (a : Answer) → (n ≡ t.number → ⊥) → Q n a → P n a) → ((a : Answer) → Q t.number a → a ≡ answer) → Out P xs us (t ∷ ts) → Out Q xs (us ++ (t.number, answer) ∷ []) ts
out_applied P Q [] [] t ts answer apart less now h = absurd h
out_applied P Q [] (u ∷ us) t ts answer apart less now h = absurd h
out_applied P Q (x ∷ xs) (u ∷ us) t ts answer apart less now h = (
  h.0,
  (λ a q. h.1 a (less x.0 a (λ e. not_among t.number xs (out_has P xs us t ts h.2) (subst (λ k. IsNotAmong k xs) e apart.0)) q)),
  out_applied P Q xs us t ts answer apart.1 less now h.2,
)
out_applied P Q (x ∷ xs) [] t ts answer apart less now h = (
  h.0,
  (λ a q. now a (subst (λ k. Q k a) (sym h.0) q)),
  out_map P Q xs [] ts (λ n a among q. less n a (λ e. not_among n xs among (subst (λ k. IsNotAmong k xs) (sym (e ∙ h.0)) apart.0)) q) h.2,
)

pub stand_applied :
    (P Q : ℕ → Answer → Type 0) (late out : List SaidAsk) (us : List GivenAnswer) (t : Ticket) (ts : List Ticket) (answer : Answer) → AreApart out
    → ((n : ℕ) (a : Answer) → (n ≡ t.number → ⊥) → Q n a → P n a) → ((a : Answer) → Q t.number a → a ≡ answer) → Stand P late out us (t ∷ ts) → Stand Q late out (us ++ (t.number, answer) ∷ []) ts
stand_applied P Q [] out us t ts answer apart less now h = out_applied P Q out us t ts answer apart less now h
stand_applied P Q (x ∷ late) out (u ∷ us) t ts answer apart less now h = (h.0, h.1, stand_applied P Q late out us t ts answer apart less now h.2)
stand_applied P Q (x ∷ late) out [] t ts answer apart less now h =
    (h.0, h.1, stand_map P Q late out [] ts (λ n a among q. less n a (λ e. not_among n out among (subst (λ k. IsNotAmong k out) (sym (e ∙ h.0)) h.1)) q) h.2)

-- it had failed
out_landed : (P : ℕ → Answer → Type 0) (xs : List SaidAsk) (us : List GivenAnswer) (t : Ticket) (ts : List Ticket) (answer : Answer) → Out P xs us (t ∷ ts) → Out P xs (us ++ (t.number, answer) ∷ []) ts
out_landed P [] [] t ts answer h = absurd h
out_landed P [] (u ∷ us) t ts answer h = absurd h
out_landed P (x ∷ xs) (u ∷ us) t ts answer h = (h.0, h.1, out_landed P xs us t ts answer h.2)
out_landed P (x ∷ xs) [] t ts answer h = (h.0, (λ a p. absurd (h.1 a p)), h.2)

pub stand_landed : (P : ℕ → Answer → Type 0) (late out : List SaidAsk) (us : List GivenAnswer) (t : Ticket) (ts : List Ticket) (answer : Answer) → Stand P late out us (t ∷ ts) → Stand P late out (us ++ (t.number, answer) ∷ []) ts
stand_landed P [] out us t ts answer h = out_landed P out us t ts answer h
stand_landed P (x ∷ late) out (u ∷ us) t ts answer h = (h.0, h.1, stand_landed P late out us t ts answer h.2)
stand_landed P (x ∷ late) out [] t ts answer h = h

-- the first that is out is late
pub stand_turned : (P : ℕ → Answer → Type 0) (late : List SaidAsk) (x : SaidAsk) (out : List SaidAsk) (us : List GivenAnswer) (ts : List Ticket) → IsNotAmong x.0 out → Stand P late (x ∷ out) us ts → Stand P (late ++ x ∷ []) out us ts
stand_turned P [] x out (u ∷ us) ts apart h = (h.0, apart, h.2)
stand_turned P [] x out [] (t ∷ ts) apart h = (h.0, apart, h.2)
stand_turned P [] x out [] [] apart h = absurd h
stand_turned P (y ∷ late) x out (u ∷ us) ts apart h = (h.0, h.1.1, stand_turned P late x out us ts apart h.2)
stand_turned P (y ∷ late) x out [] (t ∷ ts) apart h = (h.0, h.1.1, stand_turned P late x out [] ts apart h.2)
stand_turned P (y ∷ late) x out [] [] apart h = absurd h
