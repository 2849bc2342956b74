-- A line with its sum is cut at its first comma.
use Rattle.std.proofs.Common.{◌≡◌, ◌≢◌, ℕ, ◌<◌, ◌^◌, Bool, true, false, ◌&&◌, not, eqb, List, [], ◌∷◌, ◌++◌, codes, refl, sym, ap, subst, ◌∙◌, arith}
use Rattle.std.specs.Fmt.{decimal}
use Rattle.std.specs.List.{fold}
use Rattle.std.proofs.lemmas.Bool.{and_parts, eq-eqb}
use Rattle.std.specs.Str.{bytes_eq}
use Rattle.std.proofs.lemmas.Slice.Eq.{bytes_eq-Decides}
use Rattle.route_tree.specs.Fnv.{fnv1a, with_byte}
use Rattle.gate_history.specs.Lines.{Lacks, IsCutAt}
use Rattle.gate_history.specs.Spelled.{before_comma, summed}
use Rattle.gate_history.proofs.Cuts.{cut_once, lacks_both, decimal_lacks}

hash_small : (h : ℕ) (bytes : List ℕ) → h < 2 ^ 32 → fold with_byte h bytes < 2 ^ 32
hash_small h [] lt = lt
hash_small h (b ∷ bytes) lt = hash_small (with_byte h b) bytes (omega arith)

sum_small : (body : List ℕ) → fnv1a body < 2 ^ 64
sum_small body = let small = hash_small 2166136261 body (omega arith) in omega (arith, small)

abbrev lacks : ℕ → List ℕ → Bool
lacks c [] = true
lacks c (b ∷ text) = not (eqb b c) && lacks c text

not_same : (b c : ℕ) → not (eqb b c) ≡ true → b ≢ c
not_same b c h e = let t : eqb b c ≡ true = eq-eqb b c e in let f : not true ≡ true = subst (λ (x : Bool). not x ≡ true) t h in absurd cc

-- of a known text
lacks_by : (c : ℕ) (text : List ℕ) → lacks c text ≡ true → Lacks c text
lacks_by c [] h = tt
lacks_by c (b ∷ text) h = let parts = and_parts (not (eqb b c)) (lacks c text) h in (not_same b c parts.0, lacks_by c text parts.1)

front_lacks : (body : List ℕ) → Lacks 44 (before_comma body)
front_lacks body = lacks_both 44 (codes "{\"sum\":") (decimal (fnv1a body)) (lacks_by 44 (codes "{\"sum\":") refl) (decimal_lacks 44 (fnv1a body) (omega arith) (sum_small body))

has : (c : ℕ) (front rest : List ℕ) → Lacks c (front ++ c ∷ rest) → ⊥
has c [] rest h = h.0 refl
has c (x ∷ front) rest h = has c front rest h.1

pub not_summed : (line body : List ℕ) → Lacks 44 line → line ≢ summed body
not_summed line body h e = has 44 (before_comma body) body (subst (Lacks 44) e h)

pub other_sum : (line front rest body : List ℕ) → IsCutAt 44 line front rest → (before_comma rest ≡ front → ⊥) → line ≢ summed body
other_sum line front rest body cut ne e =
    let same = cut_once 44 front (before_comma body) rest body cut.1 (front_lacks body) (sym cut.0 ∙ e) in
    ne (ap before_comma same.1 ∙ sym same.0)

pub same_body : (x y : List ℕ) → summed x ≡ summed y → x ≡ y
same_body x y e = (cut_once 44 (before_comma x) (before_comma y) x y (front_lacks x) (front_lacks y) e).1

-- texts that were compared
pub unequal : (x a b : List ℕ) → a ≡ x → bytes_eq a b ≡ false → x ≡ b → ⊥
unequal x a b is e same = let t : bytes_eq a b ≡ true = (bytes_eq-Decides a b).1 (is ∙ same) in let f : true ≡ false = sym t ∙ e in absurd cc
