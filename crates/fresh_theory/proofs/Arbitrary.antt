-- Where each server may hold anything, sound generations are those of today's rule.
use Rattle.std.proofs.Common.{◌≡◌, ℕ, suc, ◌<◌, ◌≤◌, true, List, ◌++◌, Option, Some, None, ◌⊎◌, ⊎_elim, arith, slice_get, take}
use Rattle.std.specs.Int.{◌∣◌}
use Rattle.route_tree.specs.Each.{Each}
use Rattle.route_tree.specs.Route.{Route, IsTree}
use Rattle.route_tree.specs.Place.{sizes, prefixes}
use Rattle.route_tree.proofs.Parts.{each_at}
use Rattle.route_tree.proofs.Places.{each_append}
use Rattle.gate_check.specs.Places.{IsClassOf, place_at}
use Rattle.gate_check.specs.Valid.{all_sizes, all_prefixes}
use Rattle.gate_check.proofs.PlacesValidity.{in_either}
use Rattle.gate_check.specs.Sound.{AreSound}
use Rattle.gate_growth.specs.Grown.{IsPlaceAmong, AreSoundSince}
use Rattle.gate_growth.proofs.Multiples.{least_exists}
use Rattle.gate_growth.proofs.Among.{sizes_of_one, prefix_of_all, sizes_some, all_sizes_some}
use Rattle.gate_growth.proofs.Since.{sound_since}
use Rattle.fresh_theory.specs.ArbitrarySound.{ArbitraryIsToday}

class_of_all : (trees : List Route) (k i j : ℕ) (a b : Route) → i < k → j < k → slice_get trees i ≡ Some a → slice_get trees j ≡ Some b → (o : Option (List ℕ)) → IsClassOf (prefixes a ++ prefixes b) o → IsClassOf (all_prefixes (take k trees)) o
class_of_all trees k i j a b li lj ga gb None c = tt
class_of_all trees k i j a b li lj ga gb (Some p) c =
    ⊎_elim (λ l. prefix_of_all trees k i a p li ga l) (λ r. prefix_of_all trees k j b p lj gb r) (in_either (prefixes a) (prefixes b) p c)

module _ (trees : List Route) (are : Each IsTree trees) (since : AreSoundSince (λ _. true) trees) where
  covers_at : AreSound trees
  covers_at i j a b le ga gb =
      let is_a = each_at IsTree trees i a are ga in
      let is_b = each_at IsTree trees j b are gb in
      let m = least_exists (sizes a ++ sizes b) (each_append (λ n. 0 < n) (sizes a) (sizes b) (sizes_some a is_a) (sizes_some b is_b)) in
      let all = least_exists (all_sizes (take (suc j) trees)) (all_sizes_some trees (suc j) are) in
      let li : i < suc j = omega (arith, le) in
      let lj : j < suc j = omega arith in
      let D : ℕ → Type 0 = λ n. n ∣ all.0 in
      let most : m.0 ≤ all.0 = m.1.least all.0 all.1.some (each_append D (sizes a) (sizes b) (sizes_of_one D trees (suc j) i a li ga all.1.common) (sizes_of_one D trees (suc j) j b lj gb all.1.common)) in
      record {
        modulus = m.0;
        least = m.1;
        covers = λ prefix residue class below op taking server takes kind.
            let place = place_at prefix residue all.0 in
            let among : IsPlaceAmong (take (suc j) trees) place = record { modulus = all.1; prefix = class_of_all trees (suc j) i j a b li lj ga gb prefix class; below = omega (arith, below, most) } in
            ⊎_elim (λ clear. clear kind) (λ other. absurd (let e = other.1 in cc)) (since i j a b le ga gb place among server (op, taking, takes));
      }

pub arbitrary_is_today : ArbitraryIsToday
arbitrary_is_today trees are = (covers_at trees are, sound_since (λ _. true) trees are)
