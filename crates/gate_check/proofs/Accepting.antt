-- Looks that all ended well make a valid certificate, and a tree that covers itself is a first generation.
use Rattle.std.proofs.Common.{◌≡◌, ℕ, zero, suc, ◌<◌, List, [], ◌∷◌, length, slice_get, Some, refl, subst, arith}
use Rattle.route_tree.specs.Each.{Each}
use Rattle.fresh_runs.proofs.Fresh.{runs_are_fresh}
use Rattle.route_tree.specs.Direct.{words_of}
use Rattle.route_tree.specs.Route.{Route, IsTree}
use Rattle.gate_check.specs.declared.places.table.Class.{Class}
use Rattle.gate_check.specs.declared.places.table.ClassRows.{ClassRows}
use Rattle.gate_check.specs.Places.{CoversAt}
use Rattle.gate_check.specs.Valid.{EachClass, IsClass, IsShaped, AreValidRows}
use Rattle.gate_check.proofs.Placing.{sound_is_covered}
use Rattle.gate_check.proofs.PlacesValidity.{looks_are_enough, valid_is_sound}
use Rattle.gate_check.specs.Ends.{AreValidBelow, EndIsValid}
use Rattle.gate_check.specs.Gate.{HasCertificate, CertifiedIsFresh}
use Rattle.gate_check.specs.Sound.{AreGenerations}

get_within : {A : Type 0} (xs : List A) (i : ℕ) (x : A) → slice_get xs i ≡ Some x → i < length xs
get_within [] i x e = absurd (cc)
get_within (y ∷ xs) zero x e = omega arith
get_within (y ∷ xs) (suc i) x e = omega (arith, get_within xs i x e)

module _ (tree : Route) (m : ℕ) where
  each_valid : (cs : List Class) (rs : List ClassRows) → EachClass IsShaped cs rs → Each (IsClass (tree ∷ [])) cs → ((i : ℕ) (c : Class) (r : ClassRows) → slice_get cs i ≡ Some c → slice_get rs i ≡ Some r → AreValidBelow tree c.prefix m r r.modulus) → EachClass (AreValidRows tree m) cs rs
  each_valid [] [] shaped are looks = tt
  each_valid [] (r ∷ rs) shaped are looks = shaped
  each_valid (c ∷ cs) [] shaped are looks = shaped
  each_valid (c ∷ cs) (r ∷ rs) shaped are looks = (
    looks_are_enough tree m c r are.0 shaped.0 (λ residue lt. looks 0 c r refl refl residue (let e = shaped.0.0 in omega arith)),
    each_valid cs rs shaped.1 are.1 (λ i x y a b. looks (suc i) x y a b),
  )

pub end_is_valid : EndIsValid
end_is_valid tree table certificate t shaped end = record {
  shaped = shaped;
  rows = each_valid tree table.modulus table.classes.items certificate.classes.items shaped t.moduli (λ i c r a b. end i (get_within table.classes.items i c a) c r a b);
}

only_one : (tree a : Route) (i : ℕ) → slice_get (tree ∷ []) i ≡ Some a → tree ≡ a
only_one tree a zero e = cc
only_one tree a (suc i) e = absurd (cc)

-- a tree that covers itself is a first generation
pub first_generation : (tree : Route) → IsTree tree → CoversAt tree tree → AreGenerations (tree ∷ [])
first_generation tree is covers = record {
  some = omega arith;
  few = omega arith;
  trees_are = (is, tt);
  sound = λ i j a b le x y. subst (λ p. CoversAt p b) (only_one tree a i x) (subst (CoversAt tree) (only_one tree b j y) covers);
}

pub certified_is_fresh : CertifiedIsFresh
certified_is_fresh tree is certified =
    let h : HasCertificate tree certified.0 = certified.1 in
    let covers : CoversAt tree tree = valid_is_sound tree h.table certified.0 h.is_table.is_table h.valid in
    (covers, runs_are_fresh (words_of tree) (sound_is_covered (λ n. tree) (λ n. is) (λ n m lt. covers)))
