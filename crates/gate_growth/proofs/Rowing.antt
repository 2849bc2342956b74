-- The first refusal among some servers, and one server more.
use Rattle.std.proofs.Common.{◌≡◌, ℕ, zero, suc, length, get_or, ◌<◌, ◌≤◌, Bool, true, false, cond, List, [], ◌∷◌, ◌++◌, nat_lt, Option, Some, None, ◌⊎◌, inl, inr, ⊎_elim, refl, sym, subst, arith}
use Rattle.std.proofs.lemmas.Bool.{leb-true, cases_lt}
use Rattle.route_tree.specs.Each.{Each}
use Rattle.route_tree.specs.Plan.{Plan}
use Rattle.route_tree.proofs.Parts.{each_weaker}
use Rattle.route_tree.proofs.Places.{each_append}
use Rattle.gate_growth.specs.declared.ledger.row.Cell.{Cell}
use Rattle.gate_growth.specs.declared.ledger.row.Refused.{Refused}
use Rattle.gate_growth.specs.Marks.{IsFirstLeft, MayStandAfter, IsRefusedFor}
use Rattle.gate_growth.specs.Rows.{IsRefusedAt, RefusedNotAfter, IfRefused, lesser_of, lesser_refusal}

pub not_less : (n m : ℕ) → nat_lt n m ≡ false → m ≤ n
not_less n m e = ⊎_elim (λ (lt : n < m). absurd (let h : ⊥ = grind arith in h)) (λ le. le) (cases_lt n m)

-- ---- one server

module _ (arbitrary : Bool) (plans : List Plan) (later : Plan) (s : ℕ) where
  first_once : (g h : ℕ) → IsFirstLeft arbitrary plans s g → IsFirstLeft arbitrary plans s h → g ≡ h
  first_once g h a b =
      ⊎_elim
      (λ (lt : g < h). absurd (b.1 g lt a.0))
      (λ (le : h ≤ g). ⊎_elim (λ (gt : h < g). absurd (a.1 h gt b.0)) (λ (ge : g ≤ h). (let e : g ≡ h = omega (arith, le, ge) in e)) (cases_lt h g))
      (cases_lt g h)

  -- a tree is refused for one generation
  pub refused_once : (g h : ℕ) → IsRefusedFor arbitrary plans later s g → IsRefusedFor arbitrary plans later s h → g ≡ h
  refused_once g h a b =
      ⊎_elim
      (λ (x : IsFirstLeft arbitrary plans s g). ⊎_elim (λ (y : IsFirstLeft arbitrary plans s h). first_once g h x y) (λ y. absurd (y.0 g x.0)) b.1)
      (λ x. ⊎_elim (λ (y : IsFirstLeft arbitrary plans s h). absurd (x.0 h y.0)) (λ y. (let p = x.1 in let q = y.1 in cc)) b.1)
      a.1

  -- one that may follow isn't refused
  pub not_refused : (g : ℕ) → MayStandAfter arbitrary plans later s → IsRefusedFor arbitrary plans later s g → ⊥
  not_refused g may r =
      let m = may r.0 in
      ⊎_elim (λ (x : IsFirstLeft arbitrary plans s g). m.1 g x.0) (λ x. x.2 m.0) r.1

-- ---- one server more

-- the first of two stands before whatever either does
lesser_stands : (b r : Refused) (server g : ℕ) → RefusedNotAfter b server g ⊎ RefusedNotAfter r server g → RefusedNotAfter (lesser_of b r) server g
lesser_stands b r server g h =
    (elim (nat_lt r.generation b.generation) as (λ t. nat_lt r.generation b.generation ≡ t → RefusedNotAfter (cond t r (cond (nat_lt b.generation r.generation) b (cond (nat_lt r.server b.server) r b))) server g) [
      | true ↦ λ e. let lt = leb-true _ _ e in ⊎_elim (λ x. later_b r.generation r.server lt x) (λ x. x) h
      | false ↦ λ e.
          (elim (nat_lt b.generation r.generation) as (λ t. nat_lt b.generation r.generation ≡ t → RefusedNotAfter (cond t b (cond (nat_lt r.server b.server) r b)) server g) [
            | true ↦ λ f. let lt = leb-true _ _ f in ⊎_elim (λ x. x) (λ x. later_r b.generation b.server lt x) h
            | false ↦ λ f.
                let le = not_less r.generation b.generation e in
                let ge = not_less b.generation r.generation f in
                let same : r.generation ≡ b.generation = omega (arith, le, ge) in
                (elim (nat_lt r.server b.server) as (λ t. nat_lt r.server b.server ≡ t → RefusedNotAfter (cond t r b) server g) [
                  | true ↦ λ k. let lt = leb-true _ _ k in ⊎_elim (λ x. by r.generation b.generation r.server b.server same (omega (arith, lt)) x) (λ x. x) h
                  | false ↦ λ k. let more = not_less r.server b.server k in ⊎_elim (λ x. x) (λ x. by b.generation r.generation b.server r.server (sym same) more x) h
                ]) refl
          ]) refl
    ]) refl
  where
    later_b : (n s : ℕ) → n < b.generation → RefusedNotAfter b server g → (n < g) ⊎ ((n ≡ g) × (s ≤ server))
    later_b n s lt (inl x) = inl (omega (arith, lt, x))
    later_b n s lt (inr x) = inl (let e = x.0 in omega (arith, lt, e))

    later_r : (n s : ℕ) → n < r.generation → RefusedNotAfter r server g → (n < g) ⊎ ((n ≡ g) × (s ≤ server))
    later_r n s lt (inl x) = inl (omega (arith, lt, x))
    later_r n s lt (inr x) = inl (let e = x.0 in omega (arith, lt, e))

    by : (n m s t : ℕ) → n ≡ m → s ≤ t → (m < g) ⊎ ((m ≡ g) × (t ≤ server)) → (n < g) ⊎ ((n ≡ g) × (s ≤ server))
    by n m s t e le (inl x) = inl (omega (arith, e, x))
    by n m s t e le (inr x) = inr ((let f = x.0 in omega (arith, e, f)), (let k = x.1 in omega (arith, le, k)))

-- one of the two is the first
lesser_is : (P : Refused → Type 0) (b r : Refused) → P b → P r → P (lesser_of b r)
lesser_is P b r pb pr =
    (elim (nat_lt r.generation b.generation) as (λ t. P (cond t r (cond (nat_lt b.generation r.generation) b (cond (nat_lt r.server b.server) r b)))) [
      | true ↦ pr
      | false ↦
          (elim (nat_lt b.generation r.generation) as (λ t. P (cond t b (cond (nat_lt r.server b.server) r b))) [
            | true ↦ pb
            | false ↦ (elim (nat_lt r.server b.server) as (λ t. P (cond t r b)) [ true ↦ pr | false ↦ pb ])
          ])
    ])

module _ (arbitrary : ℕ → Bool) (plans : List Plan) (later : Plan) where
  abbrev May : Cell → Type 0
  May c = MayStandAfter (arbitrary c.server) plans later c.server

  abbrev Stands : Refused → Cell → Type 0
  Stands r c = (g : ℕ) → IsRefusedFor (arbitrary c.server) plans later c.server g → RefusedNotAfter r c.server g

  abbrev Refuses : Refused → Type 0
  Refuses r = IsRefusedFor (arbitrary r.server) plans later r.server r.generation

  itself : (c : Cell) (r : Refused) → r.server ≡ c.server → IsRefusedFor (arbitrary c.server) plans later c.server r.generation → Stands r c
  itself c r same is g other = inr (refused_once (arbitrary c.server) plans later c.server r.generation g is other, (let e = same in omega (arith, e)))

  here_refuses : (c : Cell) (r : Refused) → r.server ≡ c.server → IsRefusedFor (arbitrary c.server) plans later c.server r.generation → Refuses r
  here_refuses c r same is = subst (λ s. IsRefusedFor (arbitrary s) plans later s r.generation) (sym same) is

  pub more_refused : (cells : List Cell) (cell : Cell) (best here : Option Refused) → IfRefused arbitrary plans later cells best → IsRefusedAt (arbitrary cell.server) plans later cell.server here → IfRefused arbitrary plans later (cells ++ cell ∷ []) (lesser_refusal best here)
  more_refused cells cell None None h at = each_append May cells (cell ∷ []) h (at, tt)
  more_refused cells cell (Some b) None h at = record {
    refused = h.refused;
    first = each_append (Stands b) cells (cell ∷ []) h.first ((λ g r. absurd (not_refused (arbitrary cell.server) plans later cell.server g at r)), tt);
  }
  more_refused cells cell None (Some r) h at = record {
    refused = here_refuses cell r at.0 at.1;
    first = each_append (Stands r) cells (cell ∷ [])
        (each_weaker May (Stands r) cells (λ c may g other. absurd (not_refused (arbitrary c.server) plans later c.server g may other)) h)
        (itself cell r at.0 at.1, tt);
  }
  more_refused cells cell (Some b) (Some r) h at = record {
    refused = lesser_is Refuses b r h.refused (here_refuses cell r at.0 at.1);
    first = each_append (Stands (lesser_of b r)) cells (cell ∷ [])
        (each_weaker (Stands b) (Stands (lesser_of b r)) cells (λ c stands g other. lesser_stands b r c.server g (inl (stands g other))) h.first)
        ((λ g other. lesser_stands b r cell.server g (inr (itself cell r at.0 at.1 g other))), tt);
  }

-- what each item has, one that is read has
pub each_read : {A : Type 0} (P : A → Type 0) (xs : List A) (i : ℕ) (d : A) → i < length xs → Each P xs → P (get_or xs i d)
each_read P [] i d lt h = absurd (omega (arith, lt))
each_read P (x ∷ xs) zero d lt h = h.0
each_read P (x ∷ xs) (suc i) d lt h = each_read P xs i d (omega (arith, lt)) h.1
