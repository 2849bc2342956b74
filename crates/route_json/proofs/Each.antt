-- Loops that read each of a list.
use Rattle.std.proofs.Common.{◌≡◌, ◌<◌, ℕ, suc, ◌+◌, List, [], ◌∷◌, ◌++◌, length, drop, get_or, drop-cons, add-one, Result, Ok, Err, refl, sym, ap, ap₂, ◌∙◌}
use Rattle.serde_json.specs.Data.{Data}
use Rattle.serde_json.specs.View.{view, items_view, members_view}
use Rattle.serde_json.proofs.Views.{Entry}
use Rattle.serde_json.specs.declared.value.Value.{Value}
use Rattle.route_json.specs.Fault.{Fault}
use Rattle.route_json.specs.Reading.{Reading, then_read, give, pure, each, values, members, named}

append_more : {A : Type 0} (xs : List A) (x : A) (ys : List A) → xs ++ x ∷ ys ≡ (xs ++ x ∷ []) ++ ys
append_more [] x ys = refl
append_more (y ∷ xs) x ys = ap (λ zs. y ∷ zs) (append_more xs x ys)

module _ {S A : Type 0} where
  -- what was read already stands before what is still read
  abbrev pub front : List A → Result (List A × S) Fault → Result (List A × S) Fault
  front done (Ok x) = Ok (done ++ x.0, x.1)
  front done (Err e) = Err e

  front_more : (done : List A) (a : A) (read : Result (List A × S) Fault) → front done (then_read read (λ more. give (a ∷ more))) ≡ front (done ++ a ∷ []) read
  front_more done a (Ok y) = ap (λ (zs : List A). let z : Result (List A × S) Fault = Ok (zs, y.1) in z) (append_more done a y.0)
  front_more done a (Err e) = refl

module _ {S X A : Type 0} (read : X → Reading S A) where
  abbrev then_each : List X → Result (A × S) Fault → Result (List A × S) Fault
  then_each xs q = then_read q (λ a. λ s. then_read (each read xs s) (λ more. give (a ∷ more)))

  module _ (all : Result (List A × S) Fault) where
    -- so far these are read, this is known, and these are left
    pub record Goes (left : List X) (done : List A) (s : S) : Type 0 where
      pub so_far : front done (each read left s) ≡ all

    pub goes : (xs left : List X) (x : X) (a : A) (done done' : List A) (s s' : S) → Goes xs done s → xs ≡ x ∷ left → read x s ≡ Ok (a, s') → done' ≡ done ++ a ∷ [] → Goes left done' s'
    goes xs left x a done done' s s' h at e is = record {
      so_far = ap (λ zs. front zs (each read left s')) is
          ∙ sym (front_more done a (each read left s'))
          ∙ sym (ap (front done) (ap (λ zs. each read zs s) at ∙ ap (then_each left) e))
          ∙ h.so_far;
    }

    pub stops : (xs left : List X) (x : X) (done : List A) (s : S) (f : Fault) → Goes xs done s → xs ≡ x ∷ left → read x s ≡ Err f → all ≡ Err f
    stops xs left x done s f h at e = sym h.so_far ∙ ap (front done) (ap (λ zs. each read zs s) at ∙ ap (then_each left) e)

-- the list that is left in a loop over a slice
pub drop_step : {A : Type 0} (xs : List A) (i : ℕ) (d : A) → i < length xs → d ≡ get_or xs i d → drop i xs ≡ d ∷ drop (i + 1) xs
drop_step xs i d h e = drop-cons xs i d h ∙ ap₂ (λ x k. x ∷ drop k xs) (sym e) (sym (add-one i))

pub values_step : (vs : List Value) (i : ℕ) (d : Value) → i < length vs → d ≡ get_or vs i d → values (items_view (drop i vs)) ≡ view d ∷ values (items_view (drop (i + 1) vs))
values_step vs i d h e = ap (λ ws. values (items_view ws)) (drop_step vs i d h e)

pub values_length : (vs : List Value) → length (values (items_view vs)) ≡ length vs
values_length [] = refl
values_length (v ∷ vs) = ap suc (values_length vs)

-- ---- members

-- the members of a map's entries
abbrev pub entries : List Entry → List (List ℕ × Data)
entries es = members (members_view es)

module _ {S K A : Type 0} (name_of : List ℕ → Result K Fault) (read : List ℕ → Data → Reading S A) (name text : List ℕ) (d : Data) (is : text ≡ name) (s : S) where
  abbrev then_value : Result K Fault → Result ((K × A) × S) Fault
  then_value q = then_read (pure q s) (λ k. λ t. then_read (read name d t) (λ a. give (k, a)))

  abbrev then_pair : K → Result (A × S) Fault → Result ((K × A) × S) Fault
  then_pair k q = then_read q (λ a. give (k, a))

  pub named_ok : (k : K) (a : A) (t : S) → name_of text ≡ Ok k → read text d s ≡ Ok (a, t) → named name_of read (name, d) s ≡ Ok ((k, a), t)
  named_ok k a t n r = ap then_value (ap name_of (sym is) ∙ n) ∙ ap (then_pair k) (ap (λ x. read x d s) (sym is) ∙ r)

  pub named_bad : (f : Fault) → name_of text ≡ Err f → named name_of read (name, d) s ≡ Err f
  named_bad f n = ap then_value (ap name_of (sym is) ∙ n)

  pub named_stops : (k : K) (f : Fault) → name_of text ≡ Ok k → read text d s ≡ Err f → named name_of read (name, d) s ≡ Err f
  named_stops k f n r = ap then_value (ap name_of (sym is) ∙ n) ∙ ap (then_pair k) (ap (λ x. read x d s) (sym is) ∙ r)
