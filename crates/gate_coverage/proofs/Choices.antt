-- Tests, choices and places of calls.
use Rattle.std.proofs.Common.{◌≡◌, ◌≢◌, ℕ, zero, suc, ◌+◌, ◌≤◌, Bool, true, false, cond, not, ◌&&◌, ◌||◌, List, [], ◌∷◌, ◌++◌, length, Some, ◌⊎◌, inl, inr, refl, ap, arith, slice_get, MatchBool}
use Rattle.mc_types.specs.declared.ask.Op.{Op}
use Rattle.mc_types.specs.declared.ask.Op.TheVariants.{Get}
use Rattle.fresh_runs.specs.Calls.{Call}
use Rattle.route_tree.specs.Word.{IfGet}
use Rattle.route_tree.proofs.Showing.{get_front, get_back}
use Rattle.gate_coverage.specs.Computed.{asks_get}

pub both : (a b : Bool) → a ≡ true → b ≡ true → (a && b) ≡ true
both true b p q = q
both false b p q = absurd (cc)

pub both_split : (a b : Bool) → (a && b) ≡ true → (a ≡ true) × (b ≡ true)
both_split true b h = (refl, h)
both_split false b h = absurd (cc)

pub either_left : (a b : Bool) → a ≡ true → (a || b) ≡ true
either_left true b p = refl
either_left false b p = absurd (cc)

pub either_right : (a b : Bool) → b ≡ true → (a || b) ≡ true
either_right true b p = refl
either_right false b p = p

pub either_split : (a b : Bool) → (a || b) ≡ true → (a ≡ true) ⊎ (b ≡ true)
either_split true b h = inl refl
either_split false b h = inr h

pub bool_is : (b : Bool) → (b ≡ true) ⊎ (b ≡ false)
bool_is true = inl refl
bool_is false = inr refl

pub cond_true : (t a b : Bool) → t ≡ true → cond t a b ≡ true → a ≡ true
cond_true true a b e h = h
cond_true false a b e h = absurd (cc)

pub cond_false : (t a b : Bool) → t ≡ false → cond t a b ≡ true → b ≡ true
cond_false true a b e h = absurd (cc)
cond_false false a b e h = h

pub if_true : (t a b : Bool) → t ≡ true → a ≡ true → cond t a b ≡ true
if_true true a b e h = h
if_true false a b e h = absurd (cc)

pub if_false : (t a b : Bool) → t ≡ false → b ≡ true → cond t a b ≡ true
if_false true a b e h = absurd (cc)
if_false false a b e h = h

pub not_false : (b : Bool) → not b ≡ true → b ≡ true → ⊥
not_false true h e = cc
not_false false h e = cc

pub match_true : (b : Bool) (A B : Type 0) → b ≡ true → A → MatchBool b A B
match_true true A B e h = h
match_true false A B e h = absurd (cc)

pub match_false : (b : Bool) (A B : Type 0) → b ≡ false → B → MatchBool b A B
match_false true A B e h = absurd (cc)
match_false false A B e h = h

pub true_match : (b : Bool) (A B : Type 0) → b ≡ true → MatchBool b A B → A
true_match true A B e h = h
true_match false A B e h = absurd (cc)

pub false_match : (b : Bool) (A B : Type 0) → b ≡ false → MatchBool b A B → B
false_match true A B e h = absurd (cc)
false_match false A B e h = h

-- ---- gets and other operations

pub by_get : (op : Op) (C : Type 0) → (op ≡ Get → C) → (op ≢ Get → C) → C
by_get Get C f g = f refl
by_get _ C f g = g (λ e. cc)

pub only_get : (op : Op) (A B : Type 0) → op ≡ Get → IfGet op A B → A
only_get Get A B e h = h
only_get _ A B e h = absurd (cc)

pub only_other : (op : Op) (A B : Type 0) → op ≢ Get → IfGet op A B → B
only_other Get A B n h = absurd (n refl)
only_other _ A B n h = h

pub get_is : (op : Op) (A B : Type 0) → op ≡ Get → A → IfGet op A B
get_is Get A B e a = a
get_is _ A B e a = absurd (cc)

pub other_is : (op : Op) (A B : Type 0) → op ≢ Get → B → IfGet op A B
other_is Get A B n h = absurd (n refl)
other_is _ A B n h = h

pub is_get_of : (op : Op) → op ≡ Get → asks_get op ≡ true
is_get_of op e = ap asks_get e

pub get_of : (op : Op) → asks_get op ≡ true → op ≡ Get
get_of Get h = refl
get_of _ h = absurd (cc)

pub no_get_of : (op : Op) → op ≢ Get → asks_get op ≡ false
no_get_of Get n = absurd (n refl)
no_get_of _ n = refl

-- ---- a call of a part, counted from b

-- call k has the property
abbrev pub HasCall : (Call → Type 0) → ℕ → List Call → ℕ → Type 0
HasCall P b calls k = (i : ℕ) × (k ≡ b + i) × (call : Call) × (slice_get calls i ≡ Some call) × P call

pub has_front : (P : Call → Type 0) (b : ℕ) (front back : List Call) (k : ℕ) → HasCall P b front k → HasCall P b (front ++ back) k
has_front P b front back k h = (h.0, h.1, h.2, get_front front back h.0 h.2 h.3, h.4)

pub has_back : (P : Call → Type 0) (b : ℕ) (front back : List Call) (k : ℕ) → HasCall P (b + length front) back k → HasCall P b (front ++ back) k
has_back P b front back k h = (length front + h.0, (let e = h.1 in omega arith), h.2, get_back front back h.0 h.2 h.3, h.4)

pub has_weaker : (P Q : Call → Type 0) (b : ℕ) (calls : List Call) (k : ℕ) → ((c : Call) → P c → Q c) → HasCall P b calls k → HasCall Q b calls k
has_weaker P Q b calls k f h = (h.0, h.1, h.2, h.3, f h.2 h.4)

pub get_either : {A : Type 0} (xs ys : List A) (j : ℕ) (x : A) → slice_get (xs ++ ys) j ≡ Some x → (slice_get xs j ≡ Some x) ⊎ ((i : ℕ) × (slice_get ys i ≡ Some x))
get_either [] ys j x e = inr (j, e)
get_either (y ∷ xs) ys zero x e = inl e
get_either (y ∷ xs) ys (suc j) x e = get_either xs ys j x e

-- there is a call
abbrev pub AreSome : List Call → Type 0
AreSome [] = ⊥
AreSome (c ∷ calls) = Unit {0}

pub some_either : (front back : List Call) → AreSome (front ++ back) → AreSome front ⊎ AreSome back
some_either [] back h = inr h
some_either (c ∷ front) back h = inl tt

pub some_left : (front back : List Call) → AreSome front → AreSome (front ++ back)
some_left [] back h = absurd h
some_left (c ∷ front) back h = tt

pub some_right : (front back : List Call) → AreSome back → AreSome (front ++ back)
some_right [] back h = h
some_right (c ∷ front) back h = tt

pub some_at : (calls : List Call) (j : ℕ) (c : Call) → slice_get calls j ≡ Some c → AreSome calls
some_at [] j c e = absurd (cc)
some_at (x ∷ calls) j c e = tt

pub one_less : (n : ℕ) → 1 ≤ n → (m : ℕ) × (n ≡ suc m)
one_less zero h = absurd (omega arith)
one_less (suc n) h = (n, refl)
