-- Who stands before whom in the line of a key.
use Rattle.std.proofs.Common.{◌≡◌, ℕ, ◌+◌, ◌<◌, Bool, true, false, cond, not, ◌||◌, ◌&&◌, position, slice_set, Some, List, [], ◌∷◌, ◌++◌, length, drop, get_or, refl, sym, ap, ◌∙◌, nat_eq}
use Rattle.std.proofs.lemmas.Bool.{eqb-true}
use Rattle.std.specs.List.{list_any}
use Rattle.std.specs.Cmp.Lexicographic.{pointwise, same_text}
use Rattle.std.proofs.Math.Bool.{beq}
use Rattle.std.proofs.lemmas.List.{set-get_or}
use Rattle.std.proofs.lemmas.List.Quantifiers.{position-Some}
use Rattle.std.proofs.lemmas.List.{drop_more}
use Rattle.std.proofs.lemmas.List.Sums.{take_while-cons}
use Rattle.core_commands.specs.declared.claim.Claim.{Claim}
use Rattle.core_commands.specs.declared.key_lines.Standing.{Standing}
use Rattle.core_commands.specs.Lines.{is_place, is_in_way, standing_before, is_behind, others, standing_put_at, NobodyIsPassed}

-- what claims nothing has nobody in its way
pub nobody_in_way : (key : List ℕ) (claim : Claim) (lines : List Standing) → not claim.clears ≡ true → not claim.copies ≡ true → list_any (is_in_way key claim) lines ≡ false
nobody_in_way key claim [] a b = refl
nobody_in_way key claim (it ∷ rest) a b = (λ i. way (off claim.clears a i) (off claim.copies b i) (pointwise nat_eq it.key key) || list_any (is_in_way key claim) rest) ∙ by (pointwise nat_eq it.key key) (nobody_in_way key claim rest a b)
  where
    off : (b : Bool) → not b ≡ true → b ≡ false
    off true e = sym e
    off false e = refl

    way : Bool → Bool → Bool → Bool
    way clears copies same = cond same ((cond clears it.claim.copies false) || (cond copies it.claim.clears false)) false

    by : (same : Bool) → list_any (is_in_way key claim) rest ≡ false → (way false false same || list_any (is_in_way key claim) rest) ≡ false
    by true e = e
    by false e = e

-- the one at this place is the first of the rest
pub seen :
    (client : ℕ) (key : List ℕ) (claim : Claim) (lines : List Standing) (i : ℕ) (it : Standing) → i < length lines → it ≡ get_or lines i it → is_behind client key claim (drop i lines) ≡ is_behind client key claim (it ∷ drop (i + 1) lines)
seen client key claim lines i it lt e = ap (is_behind client key claim) (drop_more lines i it lt ∙ ap (λ (x : Standing). x ∷ drop (i + 1) lines) (sym e))

module _ (client : ℕ) (key : List ℕ) (claim : Claim) (it : Standing) (rest : List Standing) where
  cons : is_behind client key claim (it ∷ rest) ≡ list_any (is_in_way key claim) (cond (not (is_place client key it)) (it ∷ standing_before client key rest) [])
  cons = ap (list_any (is_in_way key claim)) (take_while-cons (λ (e : Standing). not (is_place client key e)) it rest)

  -- nobody stands before the first
  pub first_is : is_place client key it ≡ true → is_behind client key claim (it ∷ rest) ≡ false
  first_is e = cons ∙ ap (λ b. list_any (is_in_way key claim) (cond (not b) (it ∷ standing_before client key rest) [])) e

  other : is_place client key it ≡ false → is_behind client key claim (it ∷ rest) ≡ (is_in_way key claim it || is_behind client key claim rest)
  other e = cons ∙ ap (λ b. list_any (is_in_way key claim) (cond (not b) (it ∷ standing_before client key rest) [])) e

  -- a client stands behind one in the way
  pub in_way_is : is_place client key it ≡ false → is_in_way key claim it ≡ true → is_behind client key claim (it ∷ rest) ≡ true
  in_way_is e way = other e ∙ ap (λ b. b || is_behind client key claim rest) way

  -- one that isn't in the way changes nothing: a client stands behind what it stood behind without it
  pub not_in_way : is_place client key it ≡ false → is_in_way key claim it ≡ false → is_behind client key claim (it ∷ rest) ≡ is_behind client key claim rest
  not_in_way e way = other e ∙ ap (λ b. b || is_behind client key claim rest) way

-- who leaves twice leaves once
pub others_again : (client : ℕ) (lines : List Standing) → others client (others client lines) ≡ others client lines
others_again client [] = refl
others_again client (it ∷ rest) =
    (elim (nat_eq it.client client) as (λ b. nat_eq it.client client ≡ b → others client (cond (not b) (it ∷ others client rest) (others client rest)) ≡ cond (not b) (it ∷ others client rest) (others client rest)) [
      | true ↦ λ e. others_again client rest
      | false ↦ λ e. ap (λ b. cond (not b) (it ∷ others client (others client rest)) (others client (others client rest))) e ∙ ap (λ l. it ∷ l) (others_again client rest)
    ]) refl

module _ (client : ℕ) (key : List ℕ) where
  before_first : (it : Standing) (rest : List Standing) → is_place client key it ≡ true → standing_before client key (it ∷ rest) ≡ []
  before_first it rest e = take_while-cons (λ (x : Standing). not (is_place client key x)) it rest ∙ ap (λ b. cond (not b) (it ∷ standing_before client key rest) []) e

  before_more : (it : Standing) (rest : List Standing) → is_place client key it ≡ false → standing_before client key (it ∷ rest) ≡ it ∷ standing_before client key rest
  before_more it rest e = take_while-cons (λ (x : Standing). not (is_place client key x)) it rest ∙ ap (λ b. cond (not b) (it ∷ standing_before client key rest) []) e

  -- who comes to the end of a line stands before nobody who is there
  before_end : (xs ys : List Standing) → list_any (is_place client key) xs ≡ true → standing_before client key (xs ++ ys) ≡ standing_before client key xs
  before_end [] ys e = absurd cc
  before_end (it ∷ xs) ys e =
      (elim (is_place client key it) as (λ b. is_place client key it ≡ b → (b || list_any (is_place client key) xs) ≡ true → standing_before client key (it ∷ (xs ++ ys)) ≡ standing_before client key (it ∷ xs)) [
        | true ↦ λ is e. before_first it (xs ++ ys) is ∙ sym (before_first it xs is)
        | false ↦ λ is e. before_more it (xs ++ ys) is ∙ ap (λ l. it ∷ l) (before_end xs ys e) ∙ sym (before_more it xs is)
      ]) refl e

  module _ (c : ℕ) (apart : nat_eq client c ≡ false) where
    others_cons : (it : Standing) (rest : List Standing) (b : Bool) → nat_eq it.client c ≡ b → others c (it ∷ rest) ≡ cond (not b) (it ∷ others c rest) (others c rest)
    others_cons it rest b e = ap (λ z. cond (not z) (it ∷ others c rest) (others c rest)) e

    -- the client's place in a line is nobody else's
    place_kept : (it : Standing) → is_place client key it ≡ true → nat_eq it.client c ≡ false
    place_kept it e =
        (elim (nat_eq it.client client) as (λ b. nat_eq it.client client ≡ b → cond b (pointwise nat_eq it.key key) false ≡ true → nat_eq it.client c ≡ false) [
          | true ↦ λ same e. ap (λ n. nat_eq n c) (eqb-true it.client client same) ∙ apart
          | false ↦ λ differs e. absurd cc
        ]) refl e

    before_others : (lines : List Standing) → standing_before client key (others c lines) ≡ others c (standing_before client key lines)
    before_others [] = refl
    before_others (it ∷ rest) =
        (elim (is_place client key it) as (λ b. is_place client key it ≡ b → standing_before client key (others c (it ∷ rest)) ≡ others c (standing_before client key (it ∷ rest))) [
          | true ↦ λ is. ap (standing_before client key) (others_cons it rest false (place_kept it is)) ∙ before_first it (others c rest) is ∙ sym (ap (others c) (before_first it rest is))
          | false ↦ λ is. (elim (nat_eq it.client c) as (λ b. nat_eq it.client c ≡ b → standing_before client key (others c (it ∷ rest)) ≡ others c (standing_before client key (it ∷ rest))) [
            | true ↦ λ same. ap (standing_before client key) (others_cons it rest true same) ∙ before_others rest ∙ sym (ap (others c) (before_more it rest is) ∙ others_cons it (standing_before client key rest) true same)
            | false ↦ λ differs.
                ap (standing_before client key) (others_cons it rest false differs) ∙ before_more it (others c rest) is ∙ ap (λ l. it ∷ l) (before_others rest) ∙ sym (ap (others c) (before_more it rest is) ∙ others_cons it (standing_before client key rest) false differs)
          ]) refl
        ]) refl

    place_stays : (lines : List Standing) → list_any (is_place client key) lines ≡ true → list_any (is_place client key) (others c lines) ≡ true
    place_stays [] e = e
    place_stays (it ∷ rest) e =
        (elim (is_place client key it) as (λ b. is_place client key it ≡ b → (b || list_any (is_place client key) rest) ≡ true → list_any (is_place client key) (others c (it ∷ rest)) ≡ true) [
          | true ↦ λ is e. ap (list_any (is_place client key)) (others_cons it rest false (place_kept it is)) ∙ ap (λ b. b || list_any (is_place client key) (others c rest)) is
          | false ↦ λ is e. (elim (nat_eq it.client c) as (λ b. nat_eq it.client c ≡ b → list_any (is_place client key) (others c (it ∷ rest)) ≡ true) [
            | true ↦ λ same. ap (list_any (is_place client key)) (others_cons it rest true same) ∙ place_stays rest e
            | false ↦ λ differs. ap (list_any (is_place client key)) (others_cons it rest false differs) ∙ ap (λ b. b || list_any (is_place client key) (others c rest)) is ∙ place_stays rest e
          ]) refl
        ]) refl e

pub nobody_is_passed : NobodyIsPassed
nobody_is_passed client key it lines apart = (
  before_others client key it.client apart lines,
  λ there none.
      ap (λ place. standing_before client key (standing_put_at place it lines)) none ∙ before_end client key (others it.client lines) (it ∷ []) (place_stays client key it.client apart lines there) ∙ before_others client key it.client apart lines,
)

-- who stands in its place with the claim that it has changes nothing
pub joins_again :
    (lines : List Standing) (place client : ℕ) (key : List ℕ) (claim : Claim) (it : Standing) → position (is_place client key) lines ≡ Some place → it ≡ get_or lines place it
    → (beq it.claim.clears claim.clears && beq it.claim.copies claim.copies) ≡ true → slice_set lines place (record { key = key; client = client; claim = claim }) ≡ lines
joins_again lines place client key claim it at got same =
    let there : is_place client key it ≡ true = ap (is_place client key) got ∙ (position-Some (is_place client key) lines place it at).1 in
    let both = of_place (nat_eq it.client client) (pointwise nat_eq it.key key) there in
    let is : record { key = key; client = client; claim = claim } ≡ it =
    λ i. record {
      key = sym (same_text it.key key (sym both.1)) i;
      client = sym (eqb-true it.client client both.0) i;
      claim = record { clears = sym (one_bool it.claim.clears claim.clears (first _ _ same)) i; copies = sym (one_bool it.claim.copies claim.copies (second _ _ same)) i };
    } in
    ap (λ (x : Standing). slice_set lines place x) (is ∙ got) ∙ set-get_or lines place it
  where
    of_place : (a b : Bool) → cond a b false ≡ true → (a ≡ true) × (b ≡ true)
    of_place true b e = (refl, e)
    of_place false b e = absurd cc

    first : (a b : Bool) → (a && b) ≡ true → a ≡ true
    first true b e = refl
    first false b e = absurd cc

    second : (a b : Bool) → (a && b) ≡ true → b ≡ true
    second true b e = e
    second false b e = absurd cc

    one_bool : (a b : Bool) → beq a b ≡ true → a ≡ b
    one_bool true true e = refl
    one_bool false false e = refl
    one_bool true false e = absurd cc
    one_bool false true e = absurd cc
