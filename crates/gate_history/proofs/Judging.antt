-- The ledger of generations, and one more.
use Rattle.std.proofs.Common.{◌≡◌, ℕ, suc, zero, ◌+◌, ◌-◌, Bool, List, [], ◌∷◌, ◌++◌, length, max, Some, Result, Ok, Err, MatchResult, OnOk, OnErr, IfErr, refl, sym, ap, subst, ◌∙◌, arith, slice_get}
use Rattle.route_tree.specs.Route.{Route}
use Rattle.route_json.specs.Servers.{Addresses}
use Rattle.route_json.specs.Configuration.{Configuration}
use Rattle.gate_growth.specs.Grown.{AreSoundSince}
use Rattle.gate_growth.specs.Pages.{AreOpened}
use Rattle.gate_growth.specs.Ledgers.{count_of_known, IsLedgerOf, IsUnsoundFor}
use Rattle.gate_growth.specs.declared.ledger.page.Beginning.{Beginning}
use Rattle.gate_growth.specs.declared.ledger.book.Ledger.{Ledger}
use Rattle.gate_growth.specs.declared.ledger.unsound.Unsound.{Unsound}
use Rattle.gate_history.specs.declared.generation.Generation.{Generation}
use Rattle.gate_history.specs.Histories.{Knows, generation_trees, count_after, servers_after, AreOpenedBy}
use Rattle.gate_history.specs.Judged.{Judges, IsUnsoundAfter}

-- what the ledger answers of the configuration, whatever the trees were
abbrev pub Answers : {R : Type 0} → Ledger → Configuration → Beginning → Result R Unsound → ((ℕ → Bool) → List Route → R → Type 0) → Type 0
Answers ledger config new r Follows =
    (arbitrary : ℕ → Bool) (trees : List Route) → IsLedgerOf arbitrary trees ledger → AreOpened arbitrary (count_of_known ledger) (length config.servers) new
    → MatchResult r (Follows arbitrary trees) (IsUnsoundFor arbitrary trees config.tree)

module _ (gs : List Generation) (ledger : Ledger) (config : Configuration) (new : Beginning) where
  pub judged : (r : Result (Unit {0}) Unsound) → Knows gs ledger → Answers ledger config new r (λ arbitrary trees _. AreSoundSince arbitrary (trees ++ config.tree ∷ [])) → Judges gs config new r
  judged (Ok u) k h = λ arbitrary opened. h arbitrary (generation_trees gs) (k.ledger_is arbitrary opened.0) (subst (λ n. AreOpened arbitrary n (length config.servers) new) (sym k.count) opened.1)
  judged (Err e) k h = λ arbitrary opened. h arbitrary (generation_trees gs) (k.ledger_is arbitrary opened.0) (subst (λ n. AreOpened arbitrary n (length config.servers) new) (sym k.count) opened.1)

  pub unsound_after : (e : Unsound) → Knows gs ledger → ((arbitrary : ℕ → Bool) (trees : List Route) → IsLedgerOf arbitrary trees ledger → AreOpened arbitrary (count_of_known ledger) (length config.servers) new → IsUnsoundFor arbitrary trees config.tree e)
      → IsUnsoundAfter gs config new e
  unsound_after e k h = λ arbitrary opened. h arbitrary (generation_trees gs) (k.ledger_is arbitrary opened.0) (subst (λ n. AreOpened arbitrary n (length config.servers) new) (sym k.count) opened.1)

pub known_none : (gs : List Generation) (ledger : Ledger) → gs ≡ [] → count_of_known ledger ≡ 0 → ((arbitrary : ℕ → Bool) → IsLedgerOf arbitrary [] ledger) → Knows gs ledger
known_none gs ledger none count is = subst (λ (l : List Generation). Knows l ledger) (sym none) (record { count = count; ledger_is = λ arbitrary opened. is arbitrary })

count_push : (n : ℕ) (gs : List Generation) (g : Generation) → count_after n (gs ++ g ∷ []) ≡ max (count_after n gs) (length g.config.servers)
count_push n [] g = refl
count_push n (h ∷ gs) g = count_push (max n (length h.config.servers)) gs g

opened_push : (arbitrary : ℕ → Bool) (n : ℕ) (gs : List Generation) (g : Generation) → AreOpenedBy arbitrary n (gs ++ g ∷ []) → AreOpenedBy arbitrary n gs × AreOpened arbitrary (count_after n gs) (length g.config.servers) g.began
opened_push arbitrary n [] g h = (tt, h.0)
opened_push arbitrary n (x ∷ gs) g h = let rest = opened_push arbitrary (max n (length x.config.servers)) gs g h.1 in ((h.0, rest.0), rest.1)

trees_push : (gs : List Generation) (g : Generation) → generation_trees (gs ++ g ∷ []) ≡ generation_trees gs ++ g.config.tree ∷ []
trees_push [] g = refl
trees_push (h ∷ gs) g = ap (λ (l : List Route). h.config.tree ∷ l) (trees_push gs g)

pub known_next : (gs new : List Generation) (g : Generation) (old ledger : Ledger) → Knows gs old → new ≡ gs ++ g ∷ [] → count_of_known ledger ≡ max (count_of_known old) (length g.config.servers)
    → ((arbitrary : ℕ → Bool) (trees : List Route) → IsLedgerOf arbitrary trees old → AreOpened arbitrary (count_of_known old) (length g.config.servers) g.began → IsLedgerOf arbitrary (trees ++ g.config.tree ∷ []) ledger)
    → Knows new ledger
known_next gs new g old ledger k is count follows =
    subst (λ (l : List Generation). Knows l ledger) (sym is) (record {
      count = count ∙ ap (λ n. max n (length g.config.servers)) k.count ∙ sym (count_push 0 gs g);
      ledger_is = λ arbitrary opened.
          let parts = opened_push arbitrary 0 gs g opened in
          subst (λ (ts : List Route). IsLedgerOf arbitrary ts ledger) (sym (trees_push gs g))
          (follows arbitrary (generation_trees gs) (k.ledger_is arbitrary parts.0) (subst (λ n. AreOpened arbitrary n (length g.config.servers) g.began) (sym k.count) parts.1));
    })

-- whether or not it may follow
abbrev pub Follows : Generation → Ledger → Ledger → Result (Unit {0}) Unsound → Type 0
Follows g old ledger r =
    (arbitrary : ℕ → Bool) (trees : List Route) → IsLedgerOf arbitrary trees old → AreOpened arbitrary (count_of_known old) (length g.config.servers) g.began
    → MatchResult r (λ _. IsLedgerOf arbitrary (trees ++ g.config.tree ∷ []) ledger) (IsUnsoundFor arbitrary trees g.config.tree)

pub known_after : (gs new : List Generation) (g : Generation) (old ledger : Ledger) (r : Result (Unit {0}) Unsound) → Knows gs old → OnOk r (new ≡ gs ++ g ∷ [])
    → OnOk r (count_of_known ledger ≡ max (count_of_known old) (length g.config.servers)) → Follows g old ledger r → OnErr r ((ledger ≡ old) × (new ≡ gs)) → Knows new ledger
known_after gs new g old ledger (Ok u) k is count follows same = known_next gs new g old ledger k is count follows
known_after gs new g old ledger (Err e) k is count follows same = subst (λ (l : Ledger). Knows new l) (sym same.0) (subst (λ (l : List Generation). Knows l old) (sym same.1) k)

pub refused_after : (gs new : List Generation) (g : Generation) (old ledger : Ledger) (r : Result (Unit {0}) Unsound) → Knows gs old → Follows g old ledger r → OnErr r ((ledger ≡ old) × (new ≡ gs))
    → IfErr r (λ e. (new ≡ gs) × IsUnsoundAfter gs g.config g.began e)
refused_after gs new g old ledger (Ok u) k follows same = tt
refused_after gs new g old ledger (Err e) k follows same = (same.1, unsound_after gs old g.config g.began e k follows)

last_at : (servers : Addresses) (gs : List Generation) (g : Generation) (n : ℕ) → n + 1 ≡ length gs → Some g ≡ slice_get gs n → g.config.servers ≡ servers_after servers gs
last_at servers [] g n e is = absurd cc
last_at servers (h ∷ []) g zero e is = let s : g ≡ h = cc in ap (λ (x : Generation). x.config.servers) s
last_at servers (h ∷ []) g (suc m) e is = absurd (omega (arith, e))
last_at servers (h ∷ k ∷ t) g zero e is = absurd (omega (arith, e))
last_at servers (h ∷ k ∷ t) g (suc m) e is = last_at h.config.servers (k ∷ t) g m (omega (arith, e)) is

pub last_servers : (gs : List Generation) (g : Generation) → Some g ≡ slice_get gs (length gs - 1) → g.config.servers ≡ servers_after [] gs
last_servers [] g is = absurd cc
last_servers (h ∷ gs) g is = last_at [] (h ∷ gs) g (length (h ∷ gs) - 1) (omega arith) is
