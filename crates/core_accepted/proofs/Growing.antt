-- The ledger of one configuration more.
use Rattle.std.proofs.Common.{◌≡◌, ℕ, zero, suc, ◌-◌, ◌≤◌, Bool, cond, List, [], ◌∷◌, ◌++◌, length, max, slice_get, Some, None, Result, Ok, Err, refl, sym, ap, ◌∙◌, subst, arith}
use Rattle.std.specs.Prelude.{MatchResult, IfOk, IfErr, OnOk, OnErr}
use Rattle.std.proofs.lemmas.Bool.{lt-ltb, le-ltb}
use Rattle.std.proofs.lemmas.List.{length_push}
use Rattle.route_tree.specs.Route.{Route, IsTree}
use Rattle.route_tree.proofs.Parts.{each_at}
use Rattle.route_json.specs.Configuration.{Configuration}
use Rattle.gate_check.specs.Places.{CoversAt}
use Rattle.gate_check.specs.Sound.{AreSound, AreGenerations, IsLast, trees_of}
use Rattle.gate_check.proofs.Following.{trees_more, length_trees}
use Rattle.gate_growth.specs.declared.ledger.book.Ledger.{Ledger}
use Rattle.gate_growth.specs.declared.ledger.unsound.Unsound.{Unsound}
use Rattle.gate_growth.specs.declared.ledger.page.Beginning.{Beginning}
use Rattle.gate_growth.specs.Pages.{is_any, AreOpened}
use Rattle.gate_growth.specs.Ledgers.{count_of_known, IsLedgerOf, IsUnsoundFor}
use Rattle.gate_growth.proofs.Since.{sound_since}
use Rattle.core_accepted.specs.declared.beginnings.Beginnings.{Beginnings}
use Rattle.core_accepted.specs.Known.{Known, is_arbitrary, first_of, more, IsBookOf}

-- the servers of the first configuration, and those that others bring
founders_open : (known : Known) (bound : ℕ) → known.founders ≡ bound → AreOpened (is_arbitrary known) 0 bound known.begun.opened
founders_open known bound size s from below = ap (λ b. is_any (cond b known.begun.opened known.begun.added)) (lt-ltb s known.founders (omega (arith, size, below)))

others_open : (known : Known) (from bound : ℕ) → known.founders ≤ from → AreOpened (is_arbitrary known) from bound known.begun.added
others_open known from bound founded s le below = ap (λ b. is_any (cond b known.begun.opened known.begun.added)) (le-ltb s known.founders (omega (arith, founded, le)))

-- ---- the first configuration

tree_of_last : (xs : List Configuration) (i : ℕ) (c : Configuration) → slice_get xs i ≡ Some c → slice_get (trees_of xs) i ≡ Some c.tree
tree_of_last [] i c e = absurd (cc)
tree_of_last (x ∷ xs) zero c e = cc
tree_of_last (x ∷ xs) (suc i) c e = tree_of_last xs i c e

only_one : (t a : Route) (i : ℕ) → slice_get (t ∷ []) i ≡ Some a → a ≡ t
only_one t a zero e = cc
only_one t a (suc i) e = absurd (cc)

-- the last of the gate's generations is sound by itself
alone_is_sound : (xs : List Configuration) (c : Configuration) → IsLast xs c → AreGenerations (trees_of xs) → AreSound (c.tree ∷ [])
alone_is_sound xs c last are i j a b le ga gb = cc_sound (only_one c.tree a i ga) (only_one c.tree b j gb)
  where
    at : slice_get (trees_of xs) (length xs - 1) ≡ Some c.tree
    at = tree_of_last xs (length xs - 1) c last

    cc_sound : a ≡ c.tree → b ≡ c.tree → CoversAt a b
    cc_sound e f = subst (λ (t : Route). CoversAt t b) (sym e) (subst (CoversAt c.tree) (sym f) (are.sound (length xs - 1) (length xs - 1) c.tree c.tree (omega arith) at at))

pub same_last : (xs : List Configuration) (a b : Configuration) → IsLast xs a → IsLast xs b → a ≡ b
same_last xs a b la lb = cc

-- it alone, before there is a ledger
pub first_book : (xs : List Configuration) (c : Configuration) (begun : Beginnings) (configs : List Configuration) (founders : ℕ) → IsLast xs c → AreGenerations (trees_of xs) → configs ≡ c ∷ [] → founders ≡ length c.servers
    → IsBookOf (record { configs = configs; founders = founders; begun = begun }) None
first_book xs c begun configs founders last are is size =
    let tree : IsTree c.tree = each_at IsTree (trees_of xs) (length xs - 1) c.tree are.trees_are (tree_of_last xs (length xs - 1) c last) in
    subst (λ n. IsBookOf (record { configs = configs; founders = n; begun = begun }) None) (sym size)
    (subst (λ (l : List Configuration). IsBookOf (record { configs = l; founders = length c.servers; begun = begun }) None) (sym is) (record {
      some = omega arith;
      trees_are = (tree, tt);
      sound = sound_since (is_arbitrary (first_of c begun)) (c.tree ∷ []) (tree, tt) (alone_is_sound xs c last are);
      kept = (c, refl, refl);
    }))

-- and with its ledger
pub opened_book :
    (known : Known) (first : Configuration) (opened : Beginning) (ledger : Ledger) → slice_get known.configs 0 ≡ Some first → known.begun.opened ≡ opened → IsBookOf known None
    → ((arbitrary : ℕ → Bool) → AreOpened arbitrary 0 (length first.servers) opened → IsLedgerOf arbitrary (first.tree ∷ []) ledger) → count_of_known ledger ≡ length first.servers → IsBookOf known (Some ledger)
opened_book known first opened ledger at begun book makes count =
    let alone = book.kept.1 in
    let same : book.kept.0 ≡ first = cc (at, alone) in
    let size : known.founders ≡ length first.servers = book.kept.2 ∙ ap (λ (c : Configuration). length c.servers) same in
    let trees : trees_of known.configs ≡ first.tree ∷ [] = ap trees_of alone ∙ ap (λ (c : Configuration). c.tree ∷ []) same in
    let opens : AreOpened (is_arbitrary known) 0 (length first.servers) opened = subst (AreOpened (is_arbitrary known) 0 (length first.servers)) begun (founders_open known (length first.servers) size) in
    record {
      some = book.some;
      trees_are = book.trees_are;
      sound = book.sound;
      kept = (subst (λ (l : List Route). IsLedgerOf (is_arbitrary known) l ledger) (sym trees) (makes (is_arbitrary known) opens), omega (arith, size, count));
    }

-- ---- one more

-- of one more, or as it was
pub next_book :
    (known : Known) (config : Configuration) (old new : Ledger) (configs : List Configuration) (r : Result ℕ Unsound) → IsBookOf known (Some old)
    → (IsLedgerOf (is_arbitrary known) (trees_of known.configs) old → AreOpened (is_arbitrary known) (count_of_known old) (length config.servers) known.begun.added
    → MatchResult r (λ n. (n ≡ suc (length (trees_of known.configs))) × IsLedgerOf (is_arbitrary known) (trees_of known.configs ++ config.tree ∷ []) new) (IsUnsoundFor (is_arbitrary known) (trees_of known.configs) config.tree))
    → OnOk r (configs ≡ known.configs ++ config ∷ []) → OnOk r (count_of_known new ≡ max (count_of_known old) (length config.servers)) → OnErr r ((new ≡ old) × (configs ≡ known.configs))
    → IsBookOf (record known { configs = configs }) (Some new)
next_book known config old new configs (Ok n) book followed taken servers same =
    let founded = book.kept.1 in
    let next = followed book.kept.0 (others_open known (count_of_known old) (length config.servers) founded) in
    let trees : trees_of configs ≡ trees_of known.configs ++ config.tree ∷ [] = ap trees_of taken ∙ trees_more known.configs config in
    let count = length_push known.configs config in
    let size = ap length taken in
    let kept : IsLedgerOf (is_arbitrary known) (trees_of configs) new = subst (λ (l : List Route). IsLedgerOf (is_arbitrary known) l new) (sym trees) next.1 in
    record {
      some = omega (arith, count, size);
      trees_are = kept.trees_are;
      sound = kept.sound;
      kept = (kept, omega (arith, servers, founded));
    }
next_book known config old new configs (Err u) book followed taken servers same =
    subst (λ (l : Ledger). IsBookOf (record known { configs = configs }) (Some l)) (sym same.0) (subst (λ (l : List Configuration). IsBookOf (record known { configs = l }) (Some old)) (sym same.1) book)

-- the number of the next one
pub next_number :
    (known : Known) (config : Configuration) (old new : Ledger) (r : Result ℕ Unsound) → IsBookOf known (Some old)
    → (IsLedgerOf (is_arbitrary known) (trees_of known.configs) old → AreOpened (is_arbitrary known) (count_of_known old) (length config.servers) known.begun.added
    → MatchResult r (λ n. (n ≡ suc (length (trees_of known.configs))) × IsLedgerOf (is_arbitrary known) (trees_of known.configs ++ config.tree ∷ []) new) (IsUnsoundFor (is_arbitrary known) (trees_of known.configs) config.tree))
    → MatchResult r (λ n. n ≡ suc (length (trees_of known.configs))) (IsUnsoundFor (is_arbitrary known) (trees_of known.configs) config.tree)
next_number known config old new (Ok n) book followed = (followed book.kept.0 (others_open known (count_of_known old) (length config.servers) book.kept.1)).0
next_number known config old new (Err u) book followed = followed book.kept.0 (others_open known (count_of_known old) (length config.servers) book.kept.1)

-- what came of one more
pub next_known :
    (known : Known) (config : Configuration) (configs : List Configuration) (r : Result ℕ Unsound)
    → MatchResult r (λ n. n ≡ suc (length (trees_of known.configs))) (IsUnsoundFor (is_arbitrary known) (trees_of known.configs) config.tree)
    → OnOk r (configs ≡ known.configs ++ config ∷ []) → OnErr r (configs ≡ known.configs)
    → IfOk r (λ n. (record known { configs = configs } ≡ more config known) × (n ≡ length configs))
    × IfErr r (λ u. (record known { configs = configs } ≡ known) × IsUnsoundFor (is_arbitrary known) (trees_of known.configs) config.tree u)
next_known known config configs (Ok n) number taken same =
    let trees = length_trees known.configs in
    let count = length_push known.configs config in
    let size = ap length taken in
    ((ap (λ (l : List Configuration). record known { configs = l }) taken, omega (arith, number, trees, count, size)), tt)
next_known known config configs (Err u) unsound taken same = (tt, (ap (λ (l : List Configuration). record known { configs = l }) same, unsound))
