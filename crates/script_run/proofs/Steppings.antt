-- The tree by which each command of a script runs that loads configurations.
use Rattle.std.proofs.Common.{◌≡◌, ℕ, zero, suc, ◌-◌, ◌<◌, ◌≤◌, Bool, true, false, cond, List, [], ◌∷◌, nat_lt, slice_get, Option, Some, None, refl, sym, ap, ◌∙◌, subst, arith}
use Rattle.std.proofs.lemmas.Bool.{ltb-true, lt-ltb}
use Rattle.fresh_runs.specs.Run.{AreAlone}
use Rattle.route_tree.specs.Plan.{Plan}
use Rattle.route_tree.specs.Route.{Route}
use Rattle.core_proxy.specs.Claims.{bars_by}
use Rattle.core_commands.specs.declared.sharing.Sharing.TheVariants.{Alone}
use Rattle.script_events.specs.declared.script.Reload.{Reload}
use Rattle.script_events.specs.Reloads.{is_refused}
use Rattle.script_run.specs.Standing.{tree_by}
use Rattle.script_run.specs.Driving.{one_loaded, trees_loaded, loaded_trees}
use Rattle.script_run.proofs.Loadings.{tree_after_reload, tree_after}

-- ---- the tree of a command, by how many reloads had come when it began

pub record HaveCome (first : Route) (refused : List Bool) (rs : List Reload) (loads : List (ℕ × Route)) (many : ℕ) : Type 0 where
  pub at : ℕ → ℕ
  pub within : (n : ℕ) → at n ≤ many
  pub tree : (n : ℕ) → tree_by first loads n ≡ tree_after first refused rs (at n)
  pub rising : (n m : ℕ) → n < m → at n ≤ at m

none_some : (t : Route) (ts : List Route) → t ∷ ts ≡ [] → ⊥
none_some t ts e = cc

same_head : (t u : Route) (ts us : List Route) → t ∷ ts ≡ u ∷ us → t ≡ u
same_head t u ts us e = cc

same_tail : (t u : Route) (ts us : List Route) → t ∷ ts ≡ u ∷ us → ts ≡ us
same_tail t u ts us e = cc

module _ (first : Route) (refused : List Bool) (rs : List Reload) where
  -- one reload more that loads no tree
  come_more : (loads : List (ℕ × Route)) (many : ℕ) → HaveCome first refused rs loads many → HaveCome first refused rs loads (suc many)
  come_more loads many p = record { at = p.at; within = λ n. let le = p.within n in omega (arith, le); tree = p.tree; rising = p.rising }

  at_most : (b : Bool) (many k : ℕ) → k ≤ many → cond b (suc many) k ≤ suc many
  at_most true many k le = omega arith
  at_most false many k le = omega (arith, le)

  -- one reload more that loads a tree
  come_loaded : (load : ℕ × Route) (loads : List (ℕ × Route)) (many : ℕ) → load.1 ≡ tree_after first refused rs (suc many) → HaveCome first refused rs loads many → HaveCome first refused rs (load ∷ loads) (suc many)
  come_loaded load loads many is p = record {
    at = λ n. cond (nat_lt load.0 n) (suc many) (p.at n);
    within = λ n. at_most (nat_lt load.0 n) many (p.at n) (p.within n);
    tree = λ n. by_tree n (nat_lt load.0 n);
    rising = λ n m lt. by_rise n m lt (nat_lt load.0 n) refl;
  }
    where
      by_tree : (n : ℕ) (b : Bool) → cond b load.1 (tree_by first loads n) ≡ tree_after first refused rs (cond b (suc many) (p.at n))
      by_tree n true = is
      by_tree n false = p.tree n

      rest : (b : Bool) (k j : ℕ) → k ≤ j → k ≤ many → k ≤ cond b (suc many) j
      rest true k j le few = omega (arith, few)
      rest false k j le few = le

      by_rise : (n m : ℕ) → n < m → (b : Bool) → nat_lt load.0 n ≡ b → cond b (suc many) (p.at n) ≤ cond (nat_lt load.0 m) (suc many) (p.at m)
      by_rise n m lt true e =
          let below = ltb-true load.0 n e in
          subst (λ (b : Bool). suc many ≤ cond b (suc many) (p.at m)) (sym (lt-ltb load.0 m (omega (arith, below, lt)))) (omega arith)
      by_rise n m lt false e = rest (nat_lt load.0 m) (p.at n) (p.at m) (p.rising n m lt) (p.within n)

  pub have_come : (many : ℕ) (loads : List (ℕ × Route)) → loaded_trees loads ≡ trees_loaded refused rs many → HaveCome first refused rs loads many
  have_come zero [] e = record { at = λ n. zero; within = λ n. omega arith; tree = λ n. refl; rising = λ n m lt. omega arith }
  have_come zero (load ∷ loads) e = absurd (none_some load.1 (loaded_trees loads) e)
  have_come (suc many) loads e = by (λ ls is. have_come many ls is) (is_refused (slice_get refused many)) refl (slice_get rs many) refl loads e
    where
      by :
          ((ls : List (ℕ × Route)) → loaded_trees ls ≡ trees_loaded refused rs many → HaveCome first refused rs ls many)
          → (b : Bool) → is_refused (slice_get refused many) ≡ b → (o : Option Reload) → slice_get rs many ≡ o → (ls : List (ℕ × Route))
          → loaded_trees ls ≡ one_loaded b o (trees_loaded refused rs many) → HaveCome first refused rs ls (suc many)
      by before true eb o eo ls is = come_more ls many (before ls is)
      by before false eb None eo ls is = come_more ls many (before ls is)
      by before false eb (Some r) eo [] is = absurd (none_some r.config.tree (trees_loaded refused rs many) (sym is))
      by before false eb (Some r) eo (load ∷ ls) is =
          come_loaded load ls many
          (same_head load.1 r.config.tree (loaded_trees ls) (trees_loaded refused rs many) is
          ∙ sym (ap (λ b. tree_after_reload b (slice_get rs many) (tree_after first refused rs many)) eb ∙ ap (λ o. tree_after_reload false o (tree_after first refused rs many)) eo))
          (before ls (same_tail load.1 r.config.tree (loaded_trees ls) (trees_loaded refused rs many) is))

-- each command has its key alone
pub alone : (plans : ℕ → List ℕ → Plan) → AreAlone (bars_by Alone plans)
alone plans number other ask client same = (refl, refl)
