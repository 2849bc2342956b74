-- Which parts of commands bring the same.
use Rattle.std.proofs.Common.{◌≡◌, ◌↔◌, ℕ, ◌+◌, ◌<◌, ◌≤◌, Bool, true, false, cond, List, [], ◌∷◌, ◌++◌, length, ◌⊎◌, inl, inr, ⊎_elim, refl, sym, ap, ◌∙◌, subst, arith, MatchBool, append_assoc, length-append, nat_lt, le_of_lt}
use Rattle.std.proofs.lemmas.Bool.{cases_lt, lt-ltb, le-ltb, MatchBool-at_true, MatchBool-at_false}
use Rattle.mc_types.specs.declared.ask.Ask.{Ask}
use Rattle.mc_types.specs.declared.call.Origin.{Origin}
use Rattle.mc_types.specs.Rank.{IsWorst, NoneAbove}
use Rattle.fresh_runs.specs.Calls.{Call}
use Rattle.route_tree.specs.Plan.{Plan, Plans, End, More, AllSync}
use Rattle.route_tree.specs.Word.{Given, rank, GivesOnly, Then, PlanWord, WordOfFirst, IsEnd}
use Rattle.route_job.specs.Parts.{SameAt, worse, WorstWith, AfterFirst}

-- ---- one part after another

pub same_refl : (b : ℕ) (X : ℕ → List Call → Given → Type 0) → SameAt b X X
same_refl b X calls given = ((λ h. h), (λ h. h))

pub same_sym : (b : ℕ) (X Y : ℕ → List Call → Given → Type 0) → SameAt b X Y → SameAt b Y X
same_sym b X Y h calls given = ((h calls given).1, (h calls given).0)

pub same_trans : (b : ℕ) (X Y Z : ℕ → List Call → Given → Type 0) → SameAt b X Y → SameAt b Y Z → SameAt b X Z
same_trans b X Y Z h k calls given = ((λ w. (k calls given).0 ((h calls given).0 w)), (λ w. (h calls given).1 ((k calls given).1 w)))

pub same_then : (b : ℕ) (X Y : ℕ → List Call → Given → Type 0) (S : Given → ℕ → List Call → Given → Type 0) → SameAt b X Y → SameAt b (Then X S) (Then Y S)
same_then b X Y S h calls given = (
  (λ w. (w.0, w.1, w.2, w.3, (h w.0 w.3).0 w.4, w.5)),
  (λ w. (w.0, w.1, w.2, w.3, (h w.0 w.3).1 w.4, w.5)),
)

pub then_same : (b : ℕ) (X : ℕ → List Call → Given → Type 0) (S T : Given → ℕ → List Call → Given → Type 0) → ((g : Given) (n : ℕ) → SameAt n (S g) (T g)) → SameAt b (Then X S) (Then X T)
then_same b X S T h calls given = (
  (λ w. (w.0, w.1, w.2, w.3, w.4, (h w.3 (b + length w.0) w.1 given).0 w.5)),
  (λ w. (w.0, w.1, w.2, w.3, w.4, (h w.3 (b + length w.0) w.1 given).1 w.5)),
)

sum_of : (b : ℕ) (xs ys zs : List Call) → xs ≡ ys ++ zs → b + length xs ≡ b + length ys + length zs
sum_of b xs ys zs e = let k : length xs ≡ length ys + length zs = ap length e ∙ length-append ys zs in omega (arith, k)

pub then_assoc : (b : ℕ) (X : ℕ → List Call → Given → Type 0) (S T : Given → ℕ → List Call → Given → Type 0) → SameAt b (Then (Then X S) T) (Then X (λ g. Then (S g) T))
then_assoc b X S T calls given = (
  (λ w.
      let v = w.4 in
      let e : calls ≡ v.0 ++ (v.1 ++ w.1) = w.2 ∙ ap (λ l. l ++ w.1) v.2 ∙ append_assoc v.0 v.1 w.1 in
      (v.0, v.1 ++ w.1, e, v.3, v.4, (v.1, w.1, refl, w.3, v.5, subst (λ n. T w.3 n w.1 given) (sum_of b w.0 v.0 v.1 v.2) w.5))),
  (λ w.
      let v = w.5 in
      let e : calls ≡ (w.0 ++ v.0) ++ v.1 = w.2 ∙ ap (λ l. w.0 ++ l) v.2 ∙ sym (append_assoc w.0 v.0 v.1) in
      (w.0 ++ v.0, v.1, e, v.3, (w.0, v.0, refl, w.3, w.4, v.4), subst (λ n. T v.3 n v.1 given) (sym (sum_of b (w.0 ++ v.0) w.0 v.0 refl)) v.5)),
)

pub gives_then : (b : ℕ) (g : Given) (S : Given → ℕ → List Call → Given → Type 0) → SameAt b (Then (GivesOnly g) S) (S g)
gives_then b g S calls given = (
  (λ w.
      let s : S g (b + length w.0) w.1 given = subst (λ x. S x (b + length w.0) w.1 given) w.4.1 w.5 in
      let k : b + length w.0 ≡ b = (let e = ap length w.4.0 in omega (arith, e)) in
      let t : S g b w.1 given = subst (λ n. S g n w.1 given) k s in
      subst (λ l. S g b l given) (sym (w.2 ∙ ap (λ l. l ++ w.1) w.4.0)) t),
  (λ w.
      let k : b ≡ b + 0 = omega arith in
      ([], calls, refl, g, (refl, refl), subst (λ n. S g n calls given) k w)),
)

-- ---- all children

worst_none : (gs : List Given) (worst : Given) → IsWorst rank gs worst → NoneAbove rank gs (rank worst)
worst_none [] worst w = absurd w
worst_none (g ∷ gs) worst (inl h) = ((let e = ap rank h.0 in omega arith), h.1)
worst_none (g ∷ gs) worst (inr h) = (le_of_lt h.0, worst_none gs worst h.1)

-- the worse of the first two stands for both
worst_of_two : (v g : Given) (gs : List Given) (given : Given) → IsWorst rank (v ∷ g ∷ gs) given ↔ IsWorst rank (worse v g ∷ gs) given
worst_of_two v g gs given = ⊎_elim below above (cases_lt (rank v) (rank g))
  where
    below : rank v < rank g → IsWorst rank (v ∷ g ∷ gs) given ↔ IsWorst rank (worse v g ∷ gs) given
    below lt = subst (λ t. IsWorst rank (v ∷ g ∷ gs) given ↔ IsWorst rank ((cond t g v) ∷ gs) given) (sym (lt-ltb (rank v) (rank g) lt)) (there, back)
      where
        there : IsWorst rank (v ∷ g ∷ gs) given → IsWorst rank (g ∷ gs) given
        there (inl h) = let e = ap rank h.0 in let k = h.1.0 in absurd (omega (arith, lt, e, k))
        there (inr h) = h.1

        back : IsWorst rank (g ∷ gs) given → IsWorst rank (v ∷ g ∷ gs) given
        back w = let k = (worst_none (g ∷ gs) given w).0 in inr (omega (arith, lt, k), w)

    above : rank g ≤ rank v → IsWorst rank (v ∷ g ∷ gs) given ↔ IsWorst rank (worse v g ∷ gs) given
    above le = subst (λ t. IsWorst rank (v ∷ g ∷ gs) given ↔ IsWorst rank ((cond t g v) ∷ gs) given) (sym (le-ltb (rank v) (rank g) le)) (there, back)
      where
        there : IsWorst rank (v ∷ g ∷ gs) given → IsWorst rank (v ∷ gs) given
        there (inl h) = inl (h.0, h.1.1)
        there (inr (lt, inl h)) = let e = ap rank h.0 in absurd (omega (arith, lt, e, le))
        there (inr (lt, inr h)) = inr (lt, h.1)

        back : IsWorst rank (v ∷ gs) given → IsWorst rank (v ∷ g ∷ gs) given
        back (inl h) = inl (h.0, ((let e = ap rank h.0 in omega (arith, e, le)), h.1))
        back (inr h) = inr (h.0, inr ((let k = h.0 in omega (arith, k, le)), h.1))

pub worst_one : (ask : Ask) (origin : Origin) (g : Given) (b : ℕ) → SameAt b (WorstWith End ask origin g) (GivesOnly g)
worst_one ask origin g b calls given = (
  (λ w. (w.1.0, alone (subst (λ all. IsWorst rank (g ∷ all) given) w.1.1 w.2))),
  (λ w. ([], (w.0, refl), inl (sym w.1, tt))),
)
  where
    alone : IsWorst rank (g ∷ []) given → given ≡ g
    alone (inl h) = sym h.0
    alone (inr h) = absurd h.1

pub worst_more : (p : Plan) (ps : Plans) (ask : Ask) (origin : Origin) (v : Given) (b : ℕ) → SameAt b (WorstWith (More p ps) ask origin v) (Then (PlanWord p ask origin) (λ g. WorstWith ps ask origin (worse v g)))
worst_more p ps ask origin v b calls given = (
  (λ w.
      let a = w.1 in
      (a.0, a.1, a.2, a.3, a.4, (a.5, a.7, (worst_of_two v a.3 a.5 given).0 (subst (λ all. IsWorst rank (v ∷ all) given) a.6 w.2)))),
  (λ w.
      let a = w.5 in
      (w.3 ∷ a.0, (w.0, w.1, w.2, w.3, w.4, a.0, refl, a.1), (worst_of_two v w.3 a.0 given).1 a.2)),
)

pub all_begin : (p : Plan) (ps : Plans) (ask : Ask) (origin : Origin) (b : ℕ) → SameAt b (PlanWord (AllSync (More p ps)) ask origin) (Then (PlanWord p ask origin) (WorstWith ps ask origin))
all_begin p ps ask origin b calls given = (
  (λ w.
      let a = w.1 in
      (a.0, a.1, a.2, a.3, a.4, (a.5, a.7, subst (λ all. IsWorst rank all given) a.6 w.2))),
  (λ w.
      let a = w.5 in
      (w.3 ∷ a.0, (w.0, w.1, w.2, w.3, w.4, a.0, refl, a.1), a.2)),
)

-- ---- the first children

append_none : (xs ys : List Call) → ys ≡ [] → xs ++ ys ≡ xs
append_none [] ys e = e
append_none (x ∷ xs) ys e = ap (λ l. x ∷ l) (append_none xs ys e)

-- two choices by a test
pub choice_true : (t : Bool) (A B : Type 0) → t ≡ true → A → MatchBool t A B
choice_true t A B e h = subst (λ x. MatchBool x A B) (sym e) h

pub choice_false : (t : Bool) (A B : Type 0) → t ≡ false → B → MatchBool t A B
choice_false t A B e h = subst (λ x. MatchBool x A B) (sym e) h

pub first_begin : (p : Plan) (ps : Plans) (limit : ℕ) (ask : Ask) (origin : Origin) (b : ℕ) → SameAt b (WordOfFirst (More p ps) limit ask origin) (Then (PlanWord p ask origin) (AfterFirst ps limit ask origin))
first_begin p ps limit ask origin b calls given = (there, back ps)
  where
    done : (qs : Plans) (g : Given) (n : ℕ) → ((rank g < limit) ⊎ IsEnd qs) → AfterFirst qs limit ask origin g n [] g
    done End g n h = (refl, refl)
    done (More q qs) g n (inl lt) = choice_true (nat_lt (rank g) limit) (GivesOnly g n [] g) (WordOfFirst (More q qs) limit ask origin n [] g) (lt-ltb (rank g) limit lt) (refl, refl)
    done (More q qs) g n (inr h) = absurd h

    goes : (qs : Plans) (g : Given) (n : ℕ) (more : List Call) → limit ≤ rank g → WordOfFirst qs limit ask origin n more given → AfterFirst qs limit ask origin g n more given
    goes End g n more le w = absurd w
    goes (More q qs) g n more le w = choice_false (nat_lt (rank g) limit) (GivesOnly g n more given) (WordOfFirst (More q qs) limit ask origin n more given) (le-ltb (rank g) limit le) w

    there : WordOfFirst (More p ps) limit ask origin b calls given → Then (PlanWord p ask origin) (AfterFirst ps limit ask origin) b calls given
    there (inl w) = (calls, [], sym (append_none calls [] refl), given, w.0, done ps given (b + length calls) w.1)
    there (inr w) = (w.0, w.1, w.2, w.3, w.4, goes ps w.3 (b + length w.0) w.1 w.5 w.6)

    whole : (front more : List Call) (g : Given) → calls ≡ front ++ more → PlanWord p ask origin b front g → (more ≡ []) × (given ≡ g) → PlanWord p ask origin b calls given
    whole front more g e w h =
        subst (λ x. PlanWord p ask origin b calls x) (sym h.1) (subst (λ l. PlanWord p ask origin b l g) (sym (e ∙ append_none front more h.0)) w)

    back : (qs : Plans) → Then (PlanWord p ask origin) (AfterFirst qs limit ask origin) b calls given → WordOfFirst (More p qs) limit ask origin b calls given
    back End w = inl (whole w.0 w.1 w.3 w.2 w.4 w.5, inr tt)
    back (More q qs) w =
        ⊎_elim
        (λ lt.
        let h = MatchBool-at_true (GivesOnly w.3 (b + length w.0) w.1 given) (WordOfFirst (More q qs) limit ask origin (b + length w.0) w.1 given) (lt-ltb (rank w.3) limit lt) w.5 in
        inl (whole w.0 w.1 w.3 w.2 w.4 h, inl (subst (λ (x : Given). rank x < limit) (sym h.1) lt)))
        (λ le. inr (w.0, w.1, w.2, w.3, w.4, le, MatchBool-at_false (GivesOnly w.3 (b + length w.0) w.1 given) (WordOfFirst (More q qs) limit ask origin (b + length w.0) w.1 given) (le-ltb (rank w.3) limit le) w.5))
        (cases_lt (rank w.3) limit)
