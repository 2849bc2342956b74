-- A key has one place.
use Rattle.std.proofs.Common.{◌≡◌, ℕ, ◌%◌, ◌≤◌, true, false, List, [], ◌∷◌, length, Option, Some, None, refl, sym, ap, ◌∙◌, arith, nat_eq, Result, Ok}
use Rattle.std.proofs.lemmas.Bool.{eqb-true}
use Rattle.route_tree.specs.Tag.{key_hash}
use Rattle.route_tree.specs.At.{begins}
use Rattle.route_tree.specs.declared.place.Place.{Place}
use Rattle.route_tree.specs.Place.{IsLongest, IsPlaceOf, sizes, prefixes}
use Rattle.route_tree.specs.Route.{Route}
use Rattle.gate_check.proofs.PlacesValidity.{each_in}
use Rattle.gate_coverage.proofs.Choices.{both_split}
use Rattle.gate_check.proofs.Tabling.{one_multiple}

same_begin : (p q key : List ℕ) → begins p key ≡ true → begins q key ≡ true → length p ≡ length q → p ≡ q
same_begin [] [] key h k e = refl
same_begin [] (y ∷ q) key h k e = absurd (omega (arith, e))
same_begin (x ∷ p) [] key h k e = absurd (omega (arith, e))
same_begin (x ∷ p) (y ∷ q) [] h k e = absurd (cc)
same_begin (x ∷ p) (y ∷ q) (z ∷ key) h k e =
    let a = both_split (nat_eq x z) (begins p key) h in
    let b = both_split (nat_eq y z) (begins q key) k in
    let first : x ≡ y = eqb-true x z a.0 ∙ sym (eqb-true y z b.0) in
    let rest : p ≡ q = same_begin p q key a.1 b.1 (let f = e in omega arith) in
    ap (λ n. n ∷ p) first ∙ ap (λ l. y ∷ l) rest

one_longest : (ps : List (List ℕ)) (key : List ℕ) (a b : Option (List ℕ)) → IsLongest ps key a → IsLongest ps key b → a ≡ b
one_longest ps key None None h k = refl
one_longest ps key None (Some q) h k = absurd (let e = each_in (λ p. begins p key ≡ false) ps q h k.0 in let f = k.1 in cc)
one_longest ps key (Some p) None h k = absurd (let e = each_in (λ p. begins p key ≡ false) ps p k h.0 in let f = h.1 in cc)
one_longest ps key (Some p) (Some q) h k =
    let le : length p ≤ length q = each_in (λ r. begins r key ≡ true → length r ≤ length q) ps p k.2 h.0 h.1 in
    let ge : length q ≤ length p = each_in (λ r. begins r key ≡ true → length r ≤ length p) ps q h.2 k.0 k.1 in
    ap Some (same_begin p q key h.1 k.1 (omega (arith, le, ge)))

same_place : (p q : Place) → p.prefix ≡ q.prefix → p.residue ≡ q.residue → p.modulus ≡ q.modulus → p ≡ q
same_place p q e f g =
    ap (λ (x : Option (List ℕ)). record { prefix = x; residue = p.residue; modulus = p.modulus }) e
    ∙ (ap (λ (x : ℕ). record { prefix = q.prefix; residue = x; modulus = p.modulus }) f
    ∙ ap (λ (x : ℕ). record { prefix = q.prefix; residue = q.residue; modulus = x }) g)

pub one_place : (tree : Route) (key : List ℕ) (p q : Place) → IsPlaceOf tree key p → IsPlaceOf tree key q → p ≡ q
one_place tree key p q h k =
    let m : p.modulus ≡ q.modulus = one_multiple (sizes tree) p.modulus q.modulus h.modulus k.modulus in
    same_place p q (one_longest (prefixes tree) key p.prefix q.prefix h.prefix k.prefix) (h.residue ∙ ap (λ n. key_hash key % n) m ∙ sym k.residue) m

pub ok_is : {A E : Type 0} (r : Result A E) (a b : A) → r ≡ Ok a → r ≡ Ok b → a ≡ b
ok_is r a b e f = cc
