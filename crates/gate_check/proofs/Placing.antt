-- Each key has a place among those of two trees, and where one tree covers another at all of them, it does for each key.
use Rattle.std.proofs.Common.{◌≡◌, ℕ, ◌%◌, ◌<◌, ◌≤◌, true, false, List, [], ◌∷◌, ◌++◌, length, Option, Some, None, inl, inr, ⊎_elim, refl, sym, subst, arith}
use Rattle.std.proofs.lemmas.Bool.{cases_lt}
use Rattle.std.specs.Int.{◌∣◌}
use Rattle.mc_types.specs.KeyText.{IsKey}
use Rattle.route_tree.specs.Tag.{key_hash}
use Rattle.route_tree.specs.Each.{Each}
use Rattle.route_tree.specs.Route.{Route, IsTree}
use Rattle.route_tree.specs.At.{begins, tree_at}
use Rattle.route_tree.specs.Place.{sizes, prefixes, IsLongest, prefix_text, tree_at_place}
use Rattle.route_tree.proofs.Parts.{each_weaker}
use Rattle.route_tree.proofs.Places.{each_append, each_left, each_right, alike, tests, rests, prefixes_are_keys}
use Rattle.gate_coverage.specs.Cover.{Covers}
use Rattle.gate_check.specs.Places.{IsClassOf, place_at, CoversAt, SoundIsCovered}
use Rattle.gate_coverage.proofs.Choices.{bool_is}
use Rattle.gate_coverage.proofs.Covering.{covering_is_covered}

-- some of the prefixes is the longest that begins the key, or none begins it
pub longest_of : (ps : List (List ℕ)) (key : List ℕ) → (o : Option (List ℕ)) × IsLongest ps key o
longest_of [] key = (None, tt)
longest_of (p ∷ ps) key =
    let rest = longest_of ps key in
    ⊎_elim (λ is. begun rest.0 rest.1 is) (λ none. other rest.0 rest.1 none) (bool_is (begins p key))
  where
    other : (o : Option (List ℕ)) → IsLongest ps key o → begins p key ≡ false → (o : Option (List ℕ)) × IsLongest (p ∷ ps) key o
    other None h none = (None, (none, h))
    other (Some q) h none = (Some q, (inr h.0, h.1, ((λ is. absurd (cc)), h.2)))

    shorter : (n : ℕ) (qs : List (List ℕ)) → Each (λ x. begins x key ≡ false) qs → Each (λ x. begins x key ≡ true → length x ≤ n) qs
    shorter n qs h = each_weaker (λ x. begins x key ≡ false) (λ x. begins x key ≡ true → length x ≤ n) qs (λ x none is. absurd (cc)) h

    begun : (o : Option (List ℕ)) → IsLongest ps key o → begins p key ≡ true → (o : Option (List ℕ)) × IsLongest (p ∷ ps) key o
    begun None h is = (Some p, (inl refl, is, ((λ _. omega arith), shorter (length p) ps h)))
    begun (Some q) h is =
        ⊎_elim
        (λ (lt : length q < length p). (Some p, (inl refl, is, ((λ _. omega arith), each_weaker (λ x. begins x key ≡ true → length x ≤ length q) (λ x. begins x key ≡ true → length x ≤ length p) ps (λ x f e. (let k = f e in omega arith)) h.2))))
        (λ (le : length p ≤ length q). (Some q, (inr h.0, h.1, ((λ _. le), h.2))))
        (cases_lt (length q) (length p))

class_of : (ps : List (List ℕ)) (key : List ℕ) (o : Option (List ℕ)) → IsLongest ps key o → IsClassOf ps o
class_of ps key None h = tt
class_of ps key (Some q) h = h.0

some_text : (r : Route) → IsTree r → Each (λ p. 0 < length p) (prefixes r)
some_text r tree = each_weaker IsKey (λ p. 0 < length p) (prefixes r) (λ p k. k.some) (prefixes_are_keys r tree)

-- of a tree among some, the plain tree of a key is that of the key's place among theirs
pub tree_of_place : (r : Route) (key : List ℕ) (o : Option (List ℕ)) (m : ℕ) → Each (λ n. n ∣ m) (sizes r) → Each (λ p. begins p key ≡ begins p (prefix_text o)) (prefixes r) → tree_at r key ≡ tree_at_place r (place_at o (key_hash key % m) m)
tree_of_place r key o m divides same = alike (key_hash key) (key_hash key % m) key (prefix_text o) r (rests (key_hash key) m (sizes r) divides) same

-- where one tree covers another at all their places, it does for each key
pub covers_key : (earlier later : Route) → IsTree earlier → IsTree later → CoversAt earlier later → (key : List ℕ) → Covers (tree_at earlier key) (tree_at later key)
covers_key earlier later e l h key =
    let ps = prefixes earlier ++ prefixes later in
    let o = longest_of ps key in
    let some = each_append (λ p. 0 < length p) (prefixes earlier) (prefixes later) (some_text earlier e) (some_text later l) in
    let same = tests ps key o.0 some o.1 in
    let common = h.least.common in
    let P : List ℕ → Type 0 = λ p. begins p key ≡ begins p (prefix_text o.0) in
    let D : ℕ → Type 0 = λ n. n ∣ h.modulus in
    let at_earlier = tree_of_place earlier key o.0 h.modulus (each_left D (sizes earlier) (sizes later) common) (each_left P (prefixes earlier) (prefixes later) same) in
    let at_later = tree_of_place later key o.0 h.modulus (each_right D (sizes earlier) (sizes later) common) (each_right P (prefixes earlier) (prefixes later) same) in
    let some_modulus = h.least.some in
    let below : key_hash key % h.modulus < h.modulus = omega arith in
    subst (λ x. Covers x (tree_at later key)) (sym at_earlier) (subst (Covers (tree_at_place earlier (place_at o.0 (key_hash key % h.modulus) h.modulus))) (sym at_later) (h.covers o.0 (key_hash key % h.modulus) (class_of ps key o.0 o.1) below))

pub sound_is_covered : SoundIsCovered
sound_is_covered tree trees sound = covering_is_covered (λ n key. tree_at (tree n) key) (λ n m key lt. covers_key (tree n) (tree m) (trees n) (trees m) (sound n m lt) key)
