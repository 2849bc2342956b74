-- Parts of a command, one after another.
use Rattle.std.proofs.Common.{◌≡◌, ℕ, zero, suc, ◌+◌, ◌≤◌, Bool, true, false, List, [], ◌∷◌, ◌++◌, length, Some, ◌⊎◌, inl, inr, ⊎_elim, refl, sym, ap, ◌∙◌, subst, arith, slice_get, MatchBool, append_assoc, length-append}
use Rattle.mc_types.specs.declared.ask.Op.{Op}
use Rattle.mc_types.specs.declared.ask.Op.TheVariants.{Get}
use Rattle.mc_types.specs.declared.call.Outcome.{Outcome}
use Rattle.mc_types.specs.Rank.{IsWorst}
use Rattle.fresh_runs.specs.Calls.{Call}
use Rattle.fresh_runs.specs.Single.{FitsOutcome}
use Rattle.route_tree.specs.Each.{Each}
use Rattle.route_tree.specs.Word.{Given, rank, IfGet, Then, GivesOnly}
use Rattle.route_tree.specs.WordLaws.{ended}

pub each_at : {A : Type 0} (P : A → Type 0) (xs : List A) (i : ℕ) (x : A) → Each P xs → slice_get xs i ≡ Some x → P x
each_at P [] i x h e = absurd (cc)
each_at P (y ∷ xs) zero x h e = let is : y ≡ x = cc in subst P is h.0
each_at P (y ∷ xs) (suc i) x h e = each_at P xs i x h.1 e

pub each_weaker : {A : Type 0} (P Q : A → Type 0) (xs : List A) → ((x : A) → P x → Q x) → Each P xs → Each Q xs
each_weaker P Q [] f h = tt
each_weaker P Q (x ∷ xs) f h = (f x h.0, each_weaker P Q xs f h.1)

pub if_get : (op : Op) (A B C : Type 0) → IfGet op A B → (op ≡ Get → A → C) → (B → C) → C
if_get Get A B C h f g = f refl h
if_get _ A B C h f g = g h

-- what an operation needs, be it a get or another, holds where both are shown
pub get_if : (op : Op) (A B : Type 0) → A → B → IfGet op A B
get_if Get A B h k = h
get_if _ A B h k = k

pub match_bool : (b : Bool) (A B C : Type 0) → MatchBool b A B → (A → C) → (B → C) → C
match_bool true A B C h f g = f h
match_bool false A B C h f g = g h

pub bool_match : (b : Bool) (A B : Type 0) → A → B → MatchBool b A B
bool_match true A B h k = h
bool_match false A B h k = k

pub worst_is : (P : Given → Type 0) (all : List Given) (worst : Given) → Each P all → IsWorst rank all worst → P worst
worst_is P [] worst each w = absurd w
worst_is P (g ∷ gs) worst each (inl h) = subst P h.0 each.0
worst_is P (g ∷ gs) worst each (inr h) = worst_is P gs worst each.1 h.1

-- ---- a property of replies

abbrev pub Replies : {G : Type 0} → (G → Type 0) → (ℕ → List Call → G → Type 0) → Type 0
Replies {G} P part = (b : ℕ) (calls : List Call) (given : G) → part b calls given → P given

-- ---- how many calls

abbrev pub Within : {G : Type 0} → ℕ → (ℕ → List Call → G → Type 0) → Type 0
Within {G} n part = (b : ℕ) (calls : List Call) (given : G) → part b calls given → length calls ≤ n

pub then_within : {G H : Type 0} (n m : ℕ) (first : ℕ → List Call → G → Type 0) (second : G → ℕ → List Call → H → Type 0) → Within n first → ((g : G) → Within m (second g)) → Within (n + m) (Then first second)
then_within n m first second f s b calls given w =
    let size : length calls ≡ length w.0 + length w.1 = ap length w.2 ∙ length-append w.0 w.1 in
    let here = f b w.0 w.3 w.4 in
    let there = s w.3 (b + length w.0) w.1 given w.5 in
    omega (arith, size, here, there)

pub gives_within : (g : Given) → Within 0 (GivesOnly g)
gives_within g b calls given w = let e = ap length w.0 in omega (arith, e)

-- ---- each outcome goes on

-- there is a word
abbrev pub HasSome : {G : Type 0} → (ℕ → List Call → G → Type 0) → Type 0
HasSome {G} part = (b : ℕ) → (calls : List Call) × (given : G) × part b calls given

-- the rest of a word that begins so
abbrev pub Rest : {G : Type 0} → (ℕ → List Call → G → Type 0) → ℕ → List Call → Type 0
Rest {G} part b calls = (rest : List Call) × (given : G) × part b (calls ++ rest) given

abbrev pub GoesOn : {G : Type 0} → (ℕ → List Call → G → Type 0) → Type 0
GoesOn {G} part =
    (b : ℕ) (calls front : List Call) (call : Call) (back : List Call) (given : G) (outcome : Outcome)
    → calls ≡ front ++ call ∷ back → part b calls given → FitsOutcome call.ask outcome → Rest part b (front ++ ended call outcome ∷ [])

-- where an item of two joined lists stands
abbrev Split : List Call → List Call → List Call → Call → List Call → Type 0
Split xs ys front call back =
    ((more : List Call) × (xs ≡ front ++ call ∷ more)) ⊎ ((more : List Call) × (front ≡ xs ++ more) × (ys ≡ more ++ call ∷ back))

split_more : (x : Call) (xs ys front : List Call) (call : Call) (back : List Call) → Split xs ys front call back → Split (x ∷ xs) ys (x ∷ front) call back
split_more x xs ys front call back (inl h) = inl (h.0, ap (λ l. x ∷ l) h.1)
split_more x xs ys front call back (inr h) = inr (h.0, ap (λ l. x ∷ l) h.1, h.2)

pub split : (xs ys front : List Call) (call : Call) (back : List Call) → xs ++ ys ≡ front ++ call ∷ back → Split xs ys front call back
split [] ys front call back e = inr (front, refl, e)
split (x ∷ xs) ys [] call back e = let is : x ≡ call = cc in inl (xs, ap (λ y. y ∷ xs) is)
split (x ∷ xs) ys (y ∷ front) call back e =
    let is : x ≡ y = cc in
    let rest : xs ++ ys ≡ front ++ call ∷ back = cc in
    subst (λ z. Split (x ∷ xs) ys (z ∷ front) call back) is (split_more x xs ys front call back (split xs ys front call back rest))

pub gives_on : (g : Given) → GoesOn (GivesOnly g)
gives_on g b calls front call back given outcome e w fits = absurd (none front (sym e ∙ w.0))
  where
    none : (xs : List Call) → xs ++ call ∷ back ≡ [] → ⊥
    none [] h = cc
    none (x ∷ xs) h = cc

-- where the call stands in the second part, the first one stays
pub goes_after : {G H : Type 0} (first : ℕ → List Call → G → Type 0) (second : G → ℕ → List Call → H → Type 0) (b : ℕ) (front here more : List Call) (call : Call) (g : G) → front ≡ here ++ more → first b here g → Rest (second g) (b + length here) (more ++ call ∷ []) → Rest (Then first second) b (front ++ call ∷ [])
goes_after first second b front here more call g e w r =
    let same : (here ++ (more ++ call ∷ [])) ++ r.0 ≡ (front ++ call ∷ []) ++ r.0 = ap (λ l. l ++ r.0) (sym (append_assoc here more (call ∷ [])) ∙ ap (λ l. l ++ call ∷ []) (sym e)) in
    (r.0, r.1, (here, (more ++ call ∷ []) ++ r.0, sym same ∙ append_assoc here (more ++ call ∷ []) r.0, g, w, r.2))

-- two parts, of which the second has a word after whatever the first gives
module _ {G H : Type 0} (first : ℕ → List Call → G → Type 0) (second : G → ℕ → List Call → H → Type 0) (Q : G → Type 0) (sure : Replies Q first) (some : (g : G) → Q g → HasSome (second g)) where
  -- what the first part did can be gone on with
  pub then_rest : (b : ℕ) (calls : List Call) → Rest first b calls → Rest (Then first second) b calls
  then_rest b calls r =
      let more = some r.1 (sure b (calls ++ r.0) r.1 r.2) (b + length (calls ++ r.0)) in
      (r.0 ++ more.0, more.1, (calls ++ r.0, more.0, sym (append_assoc calls r.0 more.0), r.1, r.2, more.2))

  pub then_some : HasSome first → HasSome (Then first second)
  then_some has b =
      let f = has b in
      let more = some f.1 (sure b f.0 f.1 f.2) (b + length f.0) in
      (f.0 ++ more.0, more.1, (f.0, more.0, refl, f.1, f.2, more.2))

  pub then_on : GoesOn first → ((g : G) → GoesOn (second g)) → GoesOn (Then first second)
  then_on f s b calls front call back given outcome e w fits =
      ⊎_elim
      (λ h. then_rest b (front ++ ended call outcome ∷ []) (f b w.0 front call h.0 w.3 outcome h.1 w.4 fits))
      (λ h. goes_after first second b front w.0 h.0 (ended call outcome) w.3 h.1 w.4 (s w.3 (b + length w.0) w.1 h.0 call back given outcome h.2 w.5 fits))
      (split w.0 w.1 front call back (sym w.2 ∙ e))

-- ---- what a choice has

pub if_on : (op : Op) (A B : ℕ → List Call → Given → Type 0) → GoesOn A → GoesOn B → GoesOn (λ b calls given. IfGet op (A b calls given) (B b calls given))
if_on Get A B f g = f
if_on _ A B f g = g

pub if_some : (op : Op) (A B : ℕ → List Call → Given → Type 0) → HasSome A → HasSome B → HasSome (λ b calls given. IfGet op (A b calls given) (B b calls given))
if_some Get A B f g = f
if_some _ A B f g = g

pub match_on : (t : Bool) (A B : ℕ → List Call → Given → Type 0) → GoesOn A → GoesOn B → GoesOn (λ b calls given. MatchBool t (A b calls given) (B b calls given))
match_on true A B f g = f
match_on false A B f g = g

pub match_some : (t : Bool) (A B : ℕ → List Call → Given → Type 0) → HasSome A → HasSome B → HasSome (λ b calls given. MatchBool t (A b calls given) (B b calls given))
match_some true A B f g = f
match_some false A B f g = g

pub gives_some : (g : Given) → HasSome (GivesOnly g)
gives_some g b = ([], g, (refl, refl))
