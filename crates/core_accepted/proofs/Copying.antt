-- For which keys a get copies: what is left of a tree for a key is what is left for the longest of its prefixes that begins the key.
use Rattle.std.proofs.Common.{◌≡◌, ℕ, ◌%◌, ◌<◌, ◌≤◌, Bool, true, false, ◌&&◌, List, [], ◌∷◌, length, Option, Some, None, inl, inr, nat_eq, refl, sym, ap, ap₂, ◌∙◌, subst, arith}
use Rattle.std.proofs.lemmas.Bool.{eq-eqb}
use Rattle.mc_types.specs.KeyText.{IsKey}
use Rattle.mc_types.specs.declared.ask.Op.{Op}
use Rattle.mc_types.specs.declared.ask.Op.TheVariants.{Get, Gat, Set, Add, Replace, Append, Prepend, Cas, Delete, Incr, Decr, Touch}
use Rattle.route_tree.specs.Tag.{key_hash}
use Rattle.route_tree.specs.Each.{Each, IsIn}
use Rattle.route_tree.specs.Route.{Route, IsTree}
use Rattle.route_tree.specs.At.{begins, plain_for, tree_at}
use Rattle.route_tree.specs.Copies.{may_copy}
use Rattle.route_tree.specs.Place.{sizes, prefixes, prefix_text, IsLongest}
use Rattle.route_tree.proofs.Copies.{others_copy_nothing}
use Rattle.route_tree.proofs.Parts.{each_weaker}
use Rattle.route_tree.proofs.Places.{alike, tests, no_front, prefixes_are_keys}
use Rattle.gate_check.specs.Places.{IsClassOf}
use Rattle.gate_check.proofs.Placing.{longest_of}
use Rattle.gate_check.proofs.PlacesValidity.{each_in}
use Rattle.core_accepted.specs.Copying.{CopiesNothing, CopiesKeys, CopiesText, LeavesText, IsFirstCopied}

same_rest : (hash : ℕ) (ns : List ℕ) → Each (λ n. hash % n ≡ hash % n) ns
same_rest hash [] = tt
same_rest hash (n ∷ ns) = (refl, same_rest hash ns)

some_text : (r : Route) → IsTree r → Each (λ p. 0 < length p) (prefixes r)
some_text r is = each_weaker IsKey (λ p. 0 < length p) (prefixes r) (λ p k. k.some) (prefixes_are_keys r is)

at_prefix : (r : Route) → IsTree r → (key : List ℕ) (o : Option (List ℕ)) → IsLongest (prefixes r) key o → tree_at r key ≡ plain_for (key_hash key) (prefix_text o) r
at_prefix r is key o h = alike (key_hash key) (key_hash key) key (prefix_text o) r (same_rest (key_hash key) (sizes r)) (tests (prefixes r) key o (some_text r is) h)

pub copies_keys : (r : Route) → IsTree r → (o : Option (List ℕ)) → IsClassOf (prefixes r) o → CopiesText r (prefix_text o) → CopiesKeys r o
copies_keys r is o known copies = record { known = known; copies = λ key h. ap (may_copy Get) (at_prefix r is key o h) ∙ copies (key_hash key) }

get_leaves : (r : Route) → IsTree r → LeavesText r [] → Each (LeavesText r) (prefixes r) → (key : List ℕ) → may_copy Get (tree_at r key) ≡ false
get_leaves r is none each key =
    let o = longest_of (prefixes r) key in
    ap (may_copy Get) (at_prefix r is key o.0 o.1) ∙ leaves o.0 o.1 (key_hash key)
  where
    leaves : (o : Option (List ℕ)) → IsLongest (prefixes r) key o → LeavesText r (prefix_text o)
    leaves None h = none
    leaves (Some q) h = each_in (LeavesText r) (prefixes r) q each h.0

pub copies_nothing : (r : Route) → IsTree r → LeavesText r [] → Each (LeavesText r) (prefixes r) → CopiesNothing r
copies_nothing r is none each Get key = get_leaves r is none each key
copies_nothing r is none each Gat key = others_copy_nothing Gat (tree_at r key) refl
copies_nothing r is none each Set key = others_copy_nothing Set (tree_at r key) refl
copies_nothing r is none each Add key = others_copy_nothing Add (tree_at r key) refl
copies_nothing r is none each Replace key = others_copy_nothing Replace (tree_at r key) refl
copies_nothing r is none each Append key = others_copy_nothing Append (tree_at r key) refl
copies_nothing r is none each Prepend key = others_copy_nothing Prepend (tree_at r key) refl
copies_nothing r is none each Cas key = others_copy_nothing Cas (tree_at r key) refl
copies_nothing r is none each Delete key = others_copy_nothing Delete (tree_at r key) refl
copies_nothing r is none each Incr key = others_copy_nothing Incr (tree_at r key) refl
copies_nothing r is none each Decr key = others_copy_nothing Decr (tree_at r key) refl
copies_nothing r is none each Touch key = others_copy_nothing Touch (tree_at r key) refl

pub first_after : (r : Route) (text : List ℕ) (texts : List (List ℕ)) (o : Option (List ℕ)) → LeavesText r text → IsFirstCopied r texts o → IsFirstCopied r (text ∷ texts) o
first_after r text texts None leaves h = (leaves, h)
first_after r text texts (Some other) leaves h = (inr h.0, h.1)

-- ---- the text of a prefix is itself a key of that prefix

both_split : (a b : Bool) → (a && b) ≡ true → b ≡ true
both_split true b h = h
both_split false b h = absurd (cc)

begins_itself : (q : List ℕ) → begins q q ≡ true
begins_itself [] = refl
begins_itself (x ∷ q) = ap₂ (λ a b. a && b) (eq-eqb x x refl) (begins_itself q)

no_longer : (p q : List ℕ) → begins p q ≡ true → length p ≤ length q
no_longer [] q h = omega arith
no_longer (x ∷ p) [] h = absurd (cc)
no_longer (x ∷ p) (y ∷ q) h = let k = no_longer p q (both_split (nat_eq x y) (begins p q) h) in omega (arith, k)

each_of : (P : List ℕ → Type 0) → ((p : List ℕ) → P p) → (ps : List (List ℕ)) → Each P ps
each_of P f [] = tt
each_of P f (p ∷ ps) = (f p, each_of P f ps)

pub own_longest : (r : Route) → IsTree r → (o : Option (List ℕ)) → IsClassOf (prefixes r) o → IsLongest (prefixes r) (prefix_text o) o
own_longest r is None h = each_weaker (λ p. 0 < length p) (λ p. begins p [] ≡ false) (prefixes r) no_front (some_text r is)
own_longest r is (Some q) h = (h, begins_itself q, each_of (λ p. begins p q ≡ true → length p ≤ length q) (λ p. no_longer p q) (prefixes r))

-- ---- of the tree's prefixes, as they were collected

pub some_key : (r : Route) → IsTree r → (texts : List (List ℕ)) → texts ≡ prefixes r → (text : List ℕ) → IsFirstCopied r texts (Some text) → CopiesKeys r (Some text)
some_key r is texts e text h = copies_keys r is (Some text) (subst (IsIn text) e h.0) h.1

pub no_key : (r : Route) → IsTree r → (texts : List (List ℕ)) → texts ≡ prefixes r → LeavesText r [] → IsFirstCopied r texts None → CopiesNothing r
no_key r is texts e none h = copies_nothing r is none (subst (Each (LeavesText r)) e h)
