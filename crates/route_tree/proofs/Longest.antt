-- Of policies by prefix the longest that begins the key is taken.
use Rattle.std.proofs.Common.{◌≡◌, ℕ, ◌≤◌, Bool, true, false, cond, ◌&&◌, List, length, Option, Some, None, IfSome, ◌⊎◌, inl, inr, ⊎_elim, refl, ap, ◌∙◌, arith}
use Rattle.std.proofs.lemmas.Bool.{leb-true, le-leb, cases_lt}
use Rattle.route_tree.specs.Tag.{key_hash}
use Rattle.route_tree.specs.Each.{Each, IsIn}
use Rattle.route_tree.specs.Route.{Route, Prefixes, Wildcard, Prefix}
use Rattle.route_tree.specs.At.{begins, is_longer, plain_for, policy_list, wildcard_of, LongestIsTaken}
use Rattle.route_tree.specs.Chosen.{chosen}
use Rattle.route_tree.proofs.PlainTrees.{plain_for_chosen}

same_item : (x y : List ℕ × Route) → Some x ≡ Some y → y ≡ x
same_item x y h = cc

module _ (key : List ℕ) where
  -- the route of this prefix is chosen: it stands among the policies or was the longest so far
  abbrev Taken : Prefixes → Option (List ℕ × Route) → Type 0
  Taken ps best =
      (prefix : List ℕ) × (r : Route) × (IsIn (prefix, r) (policy_list ps) ⊎ (best ≡ Some (prefix, r))) × (begins prefix key ≡ true)
      × Each (λ p. begins p.0 key ≡ true → length p.0 ≤ length prefix) (policy_list ps)
      × IfSome best (λ b. length b.0 ≤ length prefix) × (chosen key ps best ≡ r)

  abbrev Untaken : Prefixes → Option (List ℕ × Route) → Type 0
  Untaken ps best = (best ≡ None) × Each (λ p. begins p.0 key ≡ false) (policy_list ps) × (chosen key ps best ≡ wildcard_of ps)

  abbrev Begins : Option (List ℕ × Route) → Type 0
  Begins best = IfSome best (λ b. begins b.0 key ≡ true)

  no_shorter : (p : List ℕ) (best : Option (List ℕ × Route)) (n : ℕ) → is_longer p best ≡ true → length p ≤ n → IfSome best (λ b. length b.0 ≤ n)
  no_shorter p None n h le = tt
  no_shorter p (Some b) n h le = let lt = leb-true _ _ h in omega (arith, lt, le)

  no_longer : (p : List ℕ) (best : Option (List ℕ × Route)) (n : ℕ) → is_longer p best ≡ false → IfSome best (λ b. length b.0 ≤ n) → length p ≤ n
  no_longer p None n h le = absurd (cc)
  no_longer p (Some b) n h le = ⊎_elim (λ lt. absurd (let t = le-leb _ _ lt in cc)) (λ ge. omega (arith, ge, le)) (cases_lt (length b.0) (length p))

  module _ (p : List ℕ) (r : Route) (ps : Prefixes) (best : Option (List ℕ × Route)) where
    goes_on : (t l : Bool) → begins p key ≡ t → is_longer p best ≡ l → chosen key (Prefix p r ps) best ≡ chosen key ps (cond (t && l) (Some (p, r)) best)
    goes_on t l e f = λ i. chosen key ps (cond (e i && f i) (Some (p, r)) best)

    -- the policy is the longest so far
    replaces : begins p key ≡ true → is_longer p best ≡ true → Taken ps (Some (p, r)) ⊎ Untaken ps (Some (p, r)) → Taken (Prefix p r ps) best ⊎ Untaken (Prefix p r ps) best
    replaces e f (inl h) =
        inl (h.0, h.1, ⊎_elim (λ k. inl (inr k)) (λ k. inl (inl (same_item (p, r) (h.0, h.1) k))) h.2, h.3, ((λ b. h.5), h.4), no_shorter p best (length h.0) f h.5, goes_on true true e f ∙ h.6)
    replaces e f (inr h) = absurd (let k = h.0 in cc)

    -- the policy doesn't begin the key, or is no longer than the longest so far
    leaves : (t l : Bool) → begins p key ≡ t → is_longer p best ≡ l → (t && l) ≡ false → Taken ps best ⊎ Untaken ps best → Taken (Prefix p r ps) best ⊎ Untaken (Prefix p r ps) best
    leaves true true e f n h = absurd (cc)
    leaves true false e f n (inl h) =
        inl (h.0, h.1, ⊎_elim (λ k. inl (inr k)) (λ k. inr k) h.2, h.3, ((λ b. no_longer p best (length h.0) f h.5), h.4), h.5, goes_on true false e f ∙ h.6)
    leaves true false e f n (inr h) = absurd (let k : is_longer p best ≡ true = ap (is_longer p) h.0 in cc)
    leaves false l e f n (inl h) =
        inl (h.0, h.1, ⊎_elim (λ k. inl (inr k)) (λ k. inr k) h.2, h.3, ((λ b. absurd (cc)), h.4), h.5, goes_on false l e f ∙ h.6)
    leaves false l e f n (inr h) = inr (h.0, (e, h.1), goes_on false l e f ∙ h.2)

    step : Begins best → ((b : Option (List ℕ × Route)) → Begins b → Taken ps b ⊎ Untaken ps b) → (t l : Bool) → begins p key ≡ t → is_longer p best ≡ l → Taken (Prefix p r ps) best ⊎ Untaken (Prefix p r ps) best
    step b others true true e f = replaces e f (others (Some (p, r)) e)
    step b others true false e f = leaves true false e f refl (others best b)
    step b others false l e f = leaves false l e f refl (others best b)

  longest : (ps : Prefixes) (best : Option (List ℕ × Route)) → Begins best → Taken ps best ⊎ Untaken ps best
  longest (Wildcard r) None b = inr (refl, tt, refl)
  longest (Wildcard r) (Some best) b = inl (best.0, best.1, inr refl, b, tt, omega arith, refl)
  longest (Prefix p r ps) best b = step p r ps best b (longest ps) (begins p key) (is_longer p best) refl refl

pub longest_is_taken : LongestIsTaken
longest_is_taken ps key =
    ⊎_elim
    (λ h. inl (h.0, h.1, (⊎_elim (λ k. k) (λ k. absurd (cc)) h.2, h.3, h.4), plain_for_chosen (key_hash key) key ps ∙ ap (plain_for (key_hash key) key) h.6))
    (λ h. inr (h.1, plain_for_chosen (key_hash key) key ps ∙ ap (plain_for (key_hash key) key) h.2))
    (longest key ps None tt)
