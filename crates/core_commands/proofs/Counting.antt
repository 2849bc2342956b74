-- How counts of commands change where one comes, goes or is another.
use Rattle.std.proofs.Common.{◌≡◌, ℕ, ◌+◌, ◌-◌, Bool, true, false, cond, not, if◌then◌else◌, ◌||◌, nat_lt, nat_eq, List, [], ◌∷◌, ◌++◌, Option, Some, None, position, refl, sym, ap, ◌∙◌, subst, arith}
use Rattle.std.specs.Prelude.{slice_index_or, IsSome}
use Rattle.std.specs.HashMap.{HashMap, get_by, WritesThrough}
use Rattle.std.proofs.lemmas.Map.Steps.{set_value_same}
use Rattle.indexmap.specs.Layout.{hash_map}
use Rattle.std.specs.Cmp.{IsEquivalence}
use Rattle.std.specs.Cmp.Lexicographic.{pointwise, nat_list_eq_equiv}
use Rattle.std.specs.List.{list_any, sum_by, count_by}
use Rattle.std.specs.Map.{keys_of, values_of, lookup, set_value, count_at}
use Rattle.std.proofs.lemmas.Bool.{eqb-true, eq-eqb, lt-ltb}
use Rattle.std.proofs.lemmas.List.{get_or-map}
use Rattle.std.proofs.lemmas.List.Sums.{sum_by-cons, sum_by-swap_remove}
use Rattle.std.proofs.lemmas.Map.Entries.{sum_by-set_value}
use Rattle.std.proofs.lemmas.Option.{get_or_from_slice_get}
use Rattle.indexmap.specs.IndexMap as indexmap
use Rattle.indexmap.specs.IndexMap.{swap_remove_entry}
use Rattle.indexmap.proofs.MapLemmas.{Found-position, Missing-position, swap_remove_entry-found}
use Rattle.route_job.specs.Jobs.{server_of_pending, IsCalling}
use Rattle.core_commands.specs.declared.command.Command.{Command}
use Rattle.core_commands.specs.Out.{is_call, has_call_out}
use Rattle.core_commands.specs.Claims.{clears_key, copies_key}
use Rattle.core_commands.specs.Counts.{SetsCountAt, SetsCountWhere, is_called, is_without_call, HasAllCallsOut, CountsCommands}
use Rattle.core_commands.proofs.Commands.{is_call_true}

abbrev weight : Bool → ℕ
weight b = cond b 1 0

none_found : {A X : Type 0} {x : X} → ◌≡◌ {A = Option X} None (Some x) → A
none_found e = absurd cc

-- what was looked up, written back, changes nothing
pub same_map : {K X S : Type 0} (eq : K → K → Bool) (test : K → Bool) (m n : HashMap K X S) (w : X) → get_by test m ≡ Some w → WritesThrough eq test m w n → n ≡ m
same_map eq test m n w at through = λ i. hash_map ((through.0 ∙ set_value_same test m.entries w at) i) (through.5 i) (through.6 i)

-- what is at each number after a command is written through its place
pub written : {S : Type 0} (old new : indexmap.IndexMap ℕ Command S) (number : ℕ) (a b : Command) → indexmap.get nat_eq old number ≡ Some a → WritesThrough nat_eq (nat_eq number) old b new → (n : ℕ) → indexmap.get nat_eq new n ≡ cond (nat_eq number n) (Some b) (indexmap.get nat_eq old n)
written old new number a b was through = (through.3 (subst IsSome (sym was) refl)).0

-- some pass where their count isn't 0
pub any_counted : {X : Type 0} (p : X → Bool) (xs : List X) → nat_lt 0 (count_by p xs) ≡ list_any p xs
any_counted p [] = refl
any_counted p (x ∷ xs) = ap (nat_lt 0) (sum_by-cons (λ y. weight (p y)) x xs) ∙ by (p x) (any_counted p xs)
  where
    more : (n : ℕ) → nat_lt 0 (1 + n) ≡ true
    more n = lt-ltb 0 (1 + n) (omega arith)

    none : (n : ℕ) → 0 + n ≡ n
    none n = omega arith

    by : (b : Bool) → nat_lt 0 (count_by p xs) ≡ list_any p xs → nat_lt 0 (weight b + count_by p xs) ≡ (b || list_any p xs)
    by true rest = more (count_by p xs)
    by false rest = ap (nat_lt 0) (none (count_by p xs)) ∙ rest

-- an entry more at the end
pub count_last : {K X : Type 0} (p : X → Bool) (es : List (K × X)) (k : K) (x : X) → count_by p (values_of (es ++ (k, x) ∷ [])) ≡ count_by p (values_of es) + weight (p x)
count_last p [] k x = let one = sum_by-cons (λ y. weight (p y)) x [] in omega (arith, one)
count_last {K} {X} p (e ∷ es) k x =
    let f : X → ℕ = λ y. weight (p y) in
    let long = sum_by-cons f e.1 (values_of (es ++ (k, x) ∷ [])) in
    let short = sum_by-cons f e.1 (values_of es) in
    let rest = count_last p es k x in
    omega (arith, long, short, rest)

-- the sum over entries and over their values
entries_sum : {K X : Type 0} (f : X → ℕ) (es : List (K × X)) → sum_by (λ (e : K × X). f e.1) es ≡ sum_by f (values_of es)
entries_sum f [] = refl
entries_sum {K} {X} f (e ∷ es) = sum_by-cons (λ (d : K × X). f d.1) e es ∙ ap (λ n. f e.1 + n) (entries_sum f es) ∙ sym (sum_by-cons f e.1 (values_of es))

-- an entry less
pub count_gone : {X : Type 0} (p : X → Bool) (t : ℕ → Bool) (es : List (ℕ × X)) (a : X) → lookup t es ≡ Some a → count_by p (values_of (swap_remove_entry t es)) + weight (p a) ≡ count_by p (values_of es)
count_gone {X} p t es a at = by (position t (keys_of es)) refl
  where
    by : (r : Option ℕ) → position t (keys_of es) ≡ r → count_by p (values_of (swap_remove_entry t es)) + weight (p a) ≡ count_by p (values_of es)
    by None e = none_found (sym (Missing-position t es e).value ∙ at)
    by (Some i) e =
        let f : X → ℕ = λ y. weight (p y) in
        let g : ℕ × X → ℕ = λ e. f e.1 in
        let found = Found-position t es i e in
        let here : (slice_index_or es i (0, a)).1 ≡ a = sym (get_or-map (λ (e : ℕ × X). e.1) es i (0, a) a found.within) ∙ get_or_from_slice_get (values_of es) i a a (sym found.value ∙ at) in
        let less = sum_by-swap_remove g es i (0, a) found.within in
        let was = entries_sum f es in
        let now = entries_sum f (swap_remove_entry t es) in
        let is = ap (sum_by g) (swap_remove_entry-found t es i (0, a) e) in
        let weighs = ap f here in
        omega (arith, less, was, now, is, weighs)

module _ {K X : Type 0} (eq : K → K → Bool) (p : K → X → Bool) (same : (k q : K) → eq k q ≡ true → (xs : List X) → count_by (p k) xs ≡ count_by (p q) xs) (C D : K → ℕ) (k : K) (xs ys : List X) (was : (q : K) → C q ≡ count_by (p q) xs) where
  -- what is counted after one more of a kind
  pub one_more : ((q : K) → D q ≡ cond (eq k q) (C k + 1) (C q)) → ((q : K) → count_by (p q) ys ≡ count_by (p q) xs + weight (eq k q)) → (q : K) → D q ≡ count_by (p q) ys
  one_more sets grows q = sets q ∙ by (eq k q) refl ∙ sym (grows q)
    where
      by : (b : Bool) → eq k q ≡ b → cond b (C k + 1) (C q) ≡ count_by (p q) xs + weight b
      by true e = let a = was k in let s = same k q e xs in omega (arith, a, s)
      by false e = let a = was q in omega (arith, a)

  -- what is counted after one less of a kind
  pub one_less : ((q : K) → D q ≡ cond (eq k q) (C k - 1) (C q)) → ((q : K) → count_by (p q) ys + weight (eq k q) ≡ count_by (p q) xs) → (q : K) → D q ≡ count_by (p q) ys
  one_less sets falls q = sets q ∙ by (eq k q) refl (falls q)
    where
      by : (b : Bool) → eq k q ≡ b → count_by (p q) ys + weight b ≡ count_by (p q) xs → cond b (C k - 1) (C q) ≡ count_by (p q) ys
      by true e less = let a = was k in let s = same k q e xs in omega (arith, a, s, less)
      by false e less = let a = was q in omega (arith, a, less)

-- commands with this claim of the key
abbrev claiming : (Command → Bool) → List ℕ → Command → Bool
claiming claims key command = if claims command then pointwise nat_eq command.ask.key key else false

same_on : (claims : Command → Bool) (k q : List ℕ) → pointwise nat_eq k q ≡ true → (xs : List Command) → count_by (claiming claims k) xs ≡ count_by (claiming claims q) xs
same_on claims k q e xs =
    let laws : IsEquivalence (pointwise nat_eq) = nat_list_eq_equiv in
    λ i. count_by (λ (x : Command). if claims x then (laws.symm x.ask.key k ∙ laws.congr k q x.ask.key e ∙ laws.symm q x.ask.key) i else false) xs

same_at : (s q : ℕ) → nat_eq s q ≡ true → (xs : List Command) → count_by (is_called s) xs ≡ count_by (is_called q) xs
same_at s q e xs = ap (λ n. count_by (is_called n) xs) (eqb-true s q e)

-- a command of which no call is out is at no server
idle_called : (a : Command) → has_call_out a ≡ false → (s : ℕ) → is_called s a ≡ false
idle_called a idle s = ap (λ b. cond b (nat_eq (server_of_pending a.job.pending) s) false) idle

out_called : (a : Command) → has_call_out a ≡ true → (s : ℕ) → is_called s a ≡ nat_eq (server_of_pending a.job.pending) s
out_called a out s = ap (λ b. cond b (nat_eq (server_of_pending a.job.pending) s) false) out

-- no call of a command is out where its next one isn't
pub unsent : (a : Command) → a.is_out ≡ false → has_call_out a ≡ false
unsent a idle = ap (λ b. cond b (is_call a.job.pending) false) idle

same_of : (s q : ℕ) → nat_eq s q ≡ true → (xs : List Command) → count_by (is_without_call s) xs ≡ count_by (is_without_call q) xs
same_of s q e xs = ap (λ n. count_by (is_without_call n) xs) (eqb-true s q e)

-- a command that has no call out counts for its client
idle_without : (a : Command) → has_call_out a ≡ false → (q : ℕ) → weight (is_without_call q a) ≡ weight (nat_eq a.client q)
idle_without a idle q = ap (λ b. weight (cond (nat_eq a.client q) (not b) false)) idle ∙ by (nat_eq a.client q)
  where
    by : (b : Bool) → weight (cond b true false) ≡ weight b
    by true = refl
    by false = refl

-- a command that has a call out counts for no client
out_without : (a : Command) → has_call_out a ≡ true → (q : ℕ) → weight (is_without_call q a) ≡ 0
out_without a out q = ap (λ b. weight (cond (nat_eq a.client q) (not b) false)) out ∙ by (nat_eq a.client q)
  where
    by : (b : Bool) → weight (cond b false false) ≡ 0
    by true = refl
    by false = refl

-- where none passes, no one that is found does
none_passes : {X : Type 0} (p : X → Bool) (t : ℕ → Bool) (es : List (ℕ × X)) (x : X) → list_any p (values_of es) ≡ false → lookup t es ≡ Some x → p x ≡ false
none_passes p t [] x none at = none_found at
none_passes {X} p t (e ∷ es) x none at =
    (elim (t e.0) as (λ b. cond b (Some e.1) (lookup t es) ≡ Some x → p x ≡ false) [
      | true ↦ λ here. ap p (sym (some here)) ∙ first (p e.1) none
      | false ↦ λ here. none_passes p t es x (rest (p e.1) none) here
    ]) at
  where
    some : {x y : X} → ◌≡◌ {A = Option X} (Some x) (Some y) → x ≡ y
    some e = cc

    first : (b : Bool) → (b || list_any p (values_of es)) ≡ false → b ≡ false
    first true e = e
    first false e = refl

    rest : (b : Bool) → (b || list_any p (values_of es)) ≡ false → list_any p (values_of es) ≡ false
    rest true e = absurd cc
    rest false e = e

-- where no command of the client is without a call, each has its call out
pub all_out : {S : Type 0} (client : ℕ) (commands : indexmap.IndexMap ℕ Command S) → list_any (is_without_call client) (indexmap.values commands) ≡ false → HasAllCallsOut client commands
all_out client commands none n a was own = by (nat_eq a.client client) (has_call_out a) (eq-eqb a.client client own) (none_passes (is_without_call client) (nat_eq n) commands.entries a none was)
  where
    by : (b c : Bool) → b ≡ true → cond b (not c) false ≡ false → c ≡ true
    by true true e h = refl
    by true false e h = absurd cc
    by false c e h = absurd cc

none_more : (a b n : ℕ) (x : Bool) → x ≡ false → a ≡ b + weight x → n ≡ b → n ≡ a
none_more a b n x e h was = let w : weight x ≡ 0 = ap weight e in omega (arith, w, h, was)

none_less : (a b n : ℕ) (x : Bool) → x ≡ false → a + weight x ≡ b → n ≡ b → n ≡ a
none_less a b n x e h was = let w : weight x ≡ 0 = ap weight e in omega (arith, w, h, was)

-- the counts of a claim, where a command more or less is counted
module _ {T : Type 0} (claims : Command → Bool) (keys keys' : indexmap.IndexMap (List ℕ) ℕ T) (a : Command) (xs ys : List Command) (was : (q : List ℕ) → count_at (indexmap.get (pointwise nat_eq) keys) q ≡ count_by (claiming claims q) xs) where
  abbrev counts : indexmap.IndexMap (List ℕ) ℕ T → List ℕ → ℕ
  counts m q = count_at (indexmap.get (pointwise nat_eq) m) q

  claimed_more :
      SetsCountWhere (claims a) (pointwise nat_eq) a.ask.key (counts keys a.ask.key + 1) keys keys' → ((q : List ℕ) → count_by (claiming claims q) ys ≡ count_by (claiming claims q) xs + weight (claiming claims q a))
      → (q : List ℕ) → counts keys' q ≡ count_by (claiming claims q) ys
  claimed_more = by (claims a)
    where
      by : (b : Bool) → SetsCountWhere b (pointwise nat_eq) a.ask.key (counts keys a.ask.key + 1) keys keys' → ((q : List ℕ) → count_by (claiming claims q) ys ≡ count_by (claiming claims q) xs + weight (if b then pointwise nat_eq a.ask.key q else false)) → (q : List ℕ) → counts keys' q ≡ count_by (claiming claims q) ys
      by true sets grows q = one_more (pointwise nat_eq) (claiming claims) (same_on claims) (counts keys) (counts keys') a.ask.key xs ys was sets grows q
      by false same grows q = ap (λ m. counts m q) same ∙ none_more (count_by (claiming claims q) ys) (count_by (claiming claims q) xs) (counts keys q) false refl (grows q) (was q)

  claimed_less :
      SetsCountWhere (claims a) (pointwise nat_eq) a.ask.key (counts keys a.ask.key - 1) keys keys' → ((q : List ℕ) → count_by (claiming claims q) ys + weight (claiming claims q a) ≡ count_by (claiming claims q) xs)
      → (q : List ℕ) → counts keys' q ≡ count_by (claiming claims q) ys
  claimed_less = by (claims a)
    where
      by : (b : Bool) → SetsCountWhere b (pointwise nat_eq) a.ask.key (counts keys a.ask.key - 1) keys keys' → ((q : List ℕ) → count_by (claiming claims q) ys + weight (if b then pointwise nat_eq a.ask.key q else false) ≡ count_by (claiming claims q) xs) → (q : List ℕ) → counts keys' q ≡ count_by (claiming claims q) ys
      by true sets falls q = one_less (pointwise nat_eq) (claiming claims) (same_on claims) (counts keys) (counts keys') a.ask.key xs ys was sets falls q
      by false same falls q = ap (λ m. counts m q) same ∙ none_less (count_by (claiming claims q) ys) (count_by (claiming claims q) xs) (counts keys q) false refl (falls q) (was q)

abbrev clears : Command → Bool
clears command = command.claim.clears

abbrev copies : Command → Bool
copies command = command.claim.copies

module _ {S T : Type 0} (old new : indexmap.IndexMap ℕ Command S) (clearing copying : indexmap.IndexMap (List ℕ) ℕ T) (calls waiting : List ℕ) (number : ℕ) (a : Command) (counted : CountsCommands old clearing copying calls waiting) where
  abbrev at_place : List ℕ → ℕ → ℕ
  at_place counts q = slice_index_or counts q 0

  -- a command more, of which no call is out
  pub counted_put :
      (clearing' copying' : indexmap.IndexMap (List ℕ) ℕ T) (waiting' : List ℕ) → a.is_out ≡ false → new.entries ≡ old.entries ++ (number, a) ∷ []
      → SetsCountWhere a.claim.clears (pointwise nat_eq) a.ask.key (count_at (indexmap.get (pointwise nat_eq) clearing) a.ask.key + 1) clearing clearing'
      → SetsCountWhere a.claim.copies (pointwise nat_eq) a.ask.key (count_at (indexmap.get (pointwise nat_eq) copying) a.ask.key + 1) copying copying' → SetsCountAt a.client (slice_index_or waiting a.client 0 + 1) waiting waiting'
      → CountsCommands new clearing' copying' calls waiting'
  counted_put clearing' copying' waiting' idle entries clears_one copies_one waits =
      let grows : (p : Command → Bool) → count_by p (indexmap.values new) ≡ count_by p (indexmap.values old) + weight (p a) = λ p. ap (λ es. count_by p (values_of es)) entries ∙ count_last p old.entries number a in
      let none = unsent a idle in
      record {
        clears = claimed_more clears clearing clearing' a (indexmap.values old) (indexmap.values new) counted.clears clears_one (λ q. grows (clears_key q));
        copies = claimed_more copies copying copying' a (indexmap.values old) (indexmap.values new) counted.copies copies_one (λ q. grows (copies_key q));
        at = λ s. none_more (count_by (is_called s) (indexmap.values new)) (count_by (is_called s) (indexmap.values old)) (at_place calls s) (is_called s a) (idle_called a none s) (grows (is_called s)) (counted.at s);
        without =
            one_more nat_eq is_without_call same_of (at_place waiting) (at_place waiting') a.client (indexmap.values old) (indexmap.values new) counted.without waits
            (λ q. grows (is_without_call q) ∙ ap (λ n. count_by (is_without_call q) (indexmap.values old) + n) (idle_without a none q));
      }

  -- a command less, of which no call is out
  pub counted_gone :
      (clearing' copying' : indexmap.IndexMap (List ℕ) ℕ T) (waiting' : List ℕ) → lookup (nat_eq number) old.entries ≡ Some a → has_call_out a ≡ false → new.entries ≡ swap_remove_entry (nat_eq number) old.entries
      → SetsCountWhere a.claim.clears (pointwise nat_eq) a.ask.key (count_at (indexmap.get (pointwise nat_eq) clearing) a.ask.key - 1) clearing clearing'
      → SetsCountWhere a.claim.copies (pointwise nat_eq) a.ask.key (count_at (indexmap.get (pointwise nat_eq) copying) a.ask.key - 1) copying copying' → SetsCountAt a.client (slice_index_or waiting a.client 0 - 1) waiting waiting'
      → CountsCommands new clearing' copying' calls waiting'
  counted_gone clearing' copying' waiting' was idle entries clears_one copies_one waited =
      let falls : (p : Command → Bool) → count_by p (indexmap.values new) + weight (p a) ≡ count_by p (indexmap.values old) = λ p. ap (λ es. count_by p (values_of es) + weight (p a)) entries ∙ count_gone p (nat_eq number) old.entries a was in
      record {
        clears = claimed_less clears clearing clearing' a (indexmap.values old) (indexmap.values new) counted.clears clears_one (λ q. falls (clears_key q));
        copies = claimed_less copies copying copying' a (indexmap.values old) (indexmap.values new) counted.copies copies_one (λ q. falls (copies_key q));
        at = λ s. none_less (count_by (is_called s) (indexmap.values new)) (count_by (is_called s) (indexmap.values old)) (at_place calls s) (is_called s a) (idle_called a idle s) (falls (is_called s)) (counted.at s);
        without =
            one_less nat_eq is_without_call same_of (at_place waiting) (at_place waiting') a.client (indexmap.values old) (indexmap.values new) counted.without waited
            (λ q. ap (λ n. count_by (is_without_call q) (indexmap.values new) + n) (sym (idle_without a idle q)) ∙ falls (is_without_call q));
      }

  module _ (b : Command) (was : lookup (nat_eq number) old.entries ≡ Some a) (entries : new.entries ≡ set_value (nat_eq number) old.entries b) where
    changes : (p : Command → Bool) → count_by p (indexmap.values new) + weight (p a) ≡ count_by p (indexmap.values old) + weight (p b)
    changes p = ap (λ es. count_by p (values_of es) + weight (p a)) entries ∙ sum_by-set_value (λ y. weight (p y)) (nat_eq number) old.entries a b was

    -- where it asks and claims what it did, the counts of keys stay
    stays : (p : Command → Bool) → p b ≡ p a → (n : ℕ) → n ≡ count_by p (indexmap.values old) → n ≡ count_by p (indexmap.values new)
    stays p same n before =
        let weighs : weight (p b) ≡ weight (p a) = ap weight same in
        let step = changes p in
        omega (arith, weighs, before, step)

    clears_stays : b.ask ≡ a.ask → b.claim ≡ a.claim → (key : List ℕ) → count_at (indexmap.get (pointwise nat_eq) clearing) key ≡ count_by (clears_key key) (indexmap.values new)
    clears_stays ask claim key = stays (clears_key key) (λ i. if (claim i).clears then pointwise nat_eq (ask i).key key else false) (count_at (indexmap.get (pointwise nat_eq) clearing) key) (counted.clears key)

    copies_stays : b.ask ≡ a.ask → b.claim ≡ a.claim → (key : List ℕ) → count_at (indexmap.get (pointwise nat_eq) copying) key ≡ count_by (copies_key key) (indexmap.values new)
    copies_stays ask claim key = stays (copies_key key) (λ i. if (claim i).copies then pointwise nat_eq (ask i).key key else false) (count_at (indexmap.get (pointwise nat_eq) copying) key) (counted.copies key)

    -- what is counted where it passes for one more kind, or for one less
    comes : (p : ℕ → Command → Bool) (k : ℕ) → ((q : ℕ) → weight (p q a) ≡ 0) → ((q : ℕ) → weight (p q b) ≡ weight (nat_eq k q)) → (q : ℕ) → count_by (p q) (indexmap.values new) ≡ count_by (p q) (indexmap.values old) + weight (nat_eq k q)
    comes p k none one q = let step = changes (p q) in let before = none q in let after = one q in omega (arith, step, before, after)

    goes : (p : ℕ → Command → Bool) (k : ℕ) → ((q : ℕ) → weight (p q a) ≡ weight (nat_eq k q)) → ((q : ℕ) → weight (p q b) ≡ 0) → (q : ℕ) → count_by (p q) (indexmap.values new) + weight (nat_eq k q) ≡ count_by (p q) (indexmap.values old)
    goes p k one none q = let step = changes (p q) in let before = one q in let after = none q in omega (arith, step, before, after)

    -- all is counted after a command's call went out
    pub counted_sent :
        (calls' waiting' : List ℕ) → b.ask ≡ a.ask → b.claim ≡ a.claim → a.is_out ≡ false → b.is_out ≡ true → b.job ≡ a.job → IsCalling a.job → SetsCountAt (server_of_pending a.job.pending) (slice_index_or calls (server_of_pending a.job.pending) 0 + 1) calls calls'
        → SetsCountAt a.client (slice_index_or waiting a.client 0 - 1) waiting waiting' → CountsCommands new clearing copying calls' waiting'
    counted_sent calls' waiting' ask claim idle out job calling sets waited =
        let s = server_of_pending a.job.pending in
        let none = unsent a idle in
        let b_out : has_call_out b ≡ true = (λ i. cond (out i) (is_call (job i).pending) false) ∙ is_call_true a.job.pending calling in
        record {
          clears = clears_stays ask claim;
          copies = copies_stays ask claim;
          at =
              one_more nat_eq is_called same_at (at_place calls) (at_place calls') s (indexmap.values old) (indexmap.values new) counted.at sets
              (comes is_called s (λ q. ap (λ x. weight x) (idle_called a none q)) (λ q. ap (λ x. weight x) (out_called b b_out q) ∙ (λ i. cond (nat_eq (server_of_pending (job i).pending) q) 1 0)));
          without =
              one_less nat_eq is_without_call same_of (at_place waiting) (at_place waiting') a.client (indexmap.values old) (indexmap.values new) counted.without waited
              (goes is_without_call a.client (idle_without a none) (out_without b b_out));
        }

    -- all is counted after a command's call had its outcome
    pub counted_taken :
        (calls' waiting' : List ℕ) → b.ask ≡ a.ask → b.claim ≡ a.claim → has_call_out a ≡ true → b.is_out ≡ false → SetsCountAt (server_of_pending a.job.pending) (slice_index_or calls (server_of_pending a.job.pending) 0 - 1) calls calls'
        → SetsCountAt b.client (slice_index_or waiting b.client 0 + 1) waiting waiting' → CountsCommands new clearing copying calls' waiting'
    counted_taken calls' waiting' ask claim out idle sets waits =
        let s = server_of_pending a.job.pending in
        let none = unsent b idle in
        record {
          clears = clears_stays ask claim;
          copies = copies_stays ask claim;
          at =
              one_less nat_eq is_called same_at (at_place calls) (at_place calls') s (indexmap.values old) (indexmap.values new) counted.at sets
              (goes is_called s (λ q. ap (λ x. weight x) (out_called a out q)) (λ q. ap (λ x. weight x) (idle_called b none q)));
          without =
              one_more nat_eq is_without_call same_of (at_place waiting) (at_place waiting') b.client (indexmap.values old) (indexmap.values new) counted.without waits
              (comes is_without_call b.client (out_without a out) (idle_without b none));
        }
