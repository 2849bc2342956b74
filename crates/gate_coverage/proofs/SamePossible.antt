-- Whether a plain tree's operation can fail or hit, and whether an add asks a server, doesn't hang on the hash.
use Rattle.std.proofs.Common.{◌≡◌, ℕ, Bool, true, false, cond, ◌&&◌, ◌||◌, List, Option, Some, None, refl, sym, ap₂, subst}
use Rattle.mc_types.specs.declared.ask.Op.{Op}
use Rattle.mc_types.specs.declared.ask.Op.TheVariants.{Add}
use Rattle.route_tree.specs.Operation.{same_op}
use Rattle.route_tree.specs.Plan.{Plan, Plans, PlanPolicies}
use Rattle.route_tree.specs.Route.{Route, Routes, Policies, Prefixes, Pool, Server, Null, Failing, AllSync, Failover, MissFailover, WarmUp, ByOperation, ByPrefix, End, More, Otherwise, Policy, Wildcard, Prefix}
use Rattle.route_tree.specs.At.{begins, is_longer, plain_for, plain_for_all, plain_for_policies}
use Rattle.route_tree.specs.Chosen.{chosen}
use Rattle.route_tree.proofs.PlainTrees.{plain_for_chosen}
use Rattle.gate_coverage.specs.Computed.{asks_get, can_fail, fails_some, fails_each, fails_last, fails_head, fails_policy, hits, hits_each, hits_first, hits_some, hits_head, hits_policy, adds, adds_some, adds_first, adds_head, adds_policy}

pub record Same (p q : Plan) : Type 0 where
  pub fails_same : (op : Op) → can_fail op p ≡ can_fail op q
  pub hits_same : (op : Op) → hits op p ≡ hits op q
  pub adds_same : adds p ≡ adds q

pub record AllSame (ps qs : Plans) : Type 0 where
  pub fails_some_same : (op : Op) → fails_some op ps ≡ fails_some op qs
  pub fails_each_same : (op : Op) → fails_each op ps ≡ fails_each op qs
  pub fails_last_same : (op : Op) → fails_last op ps ≡ fails_last op qs
  pub fails_head_same : (op : Op) → fails_head op ps ≡ fails_head op qs
  pub hits_each_same : (op : Op) → hits_each op ps ≡ hits_each op qs
  pub hits_first_same : (op : Op) → hits_first op ps ≡ hits_first op qs
  pub hits_some_same : (op : Op) → hits_some op ps ≡ hits_some op qs
  pub hits_head_same : (op : Op) → hits_head op ps ≡ hits_head op qs
  pub adds_some_same : adds_some ps ≡ adds_some qs
  pub adds_first_same : adds_first ps ≡ adds_first qs
  pub adds_head_same : adds_head ps ≡ adds_head qs

pub record PoliciesSame (ps qs : PlanPolicies) : Type 0 where
  pub fails_policy_same : (op : Op) → fails_policy op ps ≡ fails_policy op qs
  pub hits_policy_same : (op : Op) → hits_policy op ps ≡ hits_policy op qs
  pub adds_policy_same : adds_policy ps ≡ adds_policy qs

both : {a b c d : Bool} → a ≡ b → c ≡ d → (a && c) ≡ (b && d)
both e f = ap₂ (λ x y. x && y) e f

either : {a b c d : Bool} → a ≡ b → c ≡ d → (a || c) ≡ (b || d)
either e f = ap₂ (λ x y. x || y) e f

module _ (one other : ℕ) (text : List ℕ) where
  abbrev AtBest : Option (List ℕ × Route) → Type 0
  AtBest None = Unit {0}
  AtBest (Some best) = Same (plain_for one text best.1) (plain_for other text best.1)

  at_best : (b : Bool) (p : List ℕ) (r : Route) (best : Option (List ℕ × Route)) → Same (plain_for one text r) (plain_for other text r) → AtBest best → AtBest (cond b (Some (p, r)) best)
  at_best true p r best h k = h
  at_best false p r best h k = k

  plain_same : (p : Plan) → Same p p
  plain_same p = record { fails_same = λ op. refl; hits_same = λ op. refl; adds_same = refl }

  mutual
    pub same : (r : Route) → Same (plain_for one text r) (plain_for other text r)
    same (Pool servers) = record { fails_same = λ op. refl; hits_same = λ op. refl; adds_same = refl }
    same (Server s) = plain_same _
    same Null = plain_same _
    same Failing = plain_same _
    same (AllSync rs) = let h = all_same rs in record { fails_same = h.fails_some_same; hits_same = h.hits_each_same; adds_same = h.adds_some_same }
    same (Failover rs) = let h = all_same rs in record { fails_same = h.fails_each_same; hits_same = h.hits_first_same; adds_same = h.adds_first_same }
    same (MissFailover rs) =
        let h = all_same rs in
        record {
          fails_same = λ op. ap₂ (λ x y. cond (asks_get op) x y) (h.fails_last_same op) (h.fails_head_same op);
          hits_same = λ op. ap₂ (λ x y. cond (asks_get op) x y) (h.hits_some_same op) (h.hits_head_same op);
          adds_same = h.adds_head_same;
        }
    same (WarmUp cold warm e) =
        let c = same cold in
        let w = same warm in
        record { fails_same = c.fails_same; hits_same = λ op. ap₂ (λ x y. x || (asks_get op && y)) (c.hits_same op) (w.hits_same op); adds_same = c.adds_same }
    same (ByOperation ps) = let h = policies_same ps in record { fails_same = h.fails_policy_same; hits_same = h.hits_policy_same; adds_same = h.adds_policy_same }
    same (ByPrefix ps) =
        subst (λ p. Same p (plain_for other text (ByPrefix ps))) (sym (plain_for_chosen one text ps))
        (subst (λ q. Same (plain_for one text (chosen text ps None)) q) (sym (plain_for_chosen other text ps)) (chosen_same ps None tt))

    pub all_same : (rs : Routes) → AllSame (plain_for_all one text rs) (plain_for_all other text rs)
    all_same End = record {
      fails_some_same = λ op. refl;
      fails_each_same = λ op. refl;
      fails_last_same = λ op. refl;
      fails_head_same = λ op. refl;
      hits_each_same = λ op. refl;
      hits_first_same = λ op. refl;
      hits_some_same = λ op. refl;
      hits_head_same = λ op. refl;
      adds_some_same = refl;
      adds_first_same = refl;
      adds_head_same = refl;
    }
    all_same (More r rs) =
        let a = same r in
        let h = all_same rs in
        record {
          fails_some_same = λ op. either (a.fails_same op) (h.fails_some_same op);
          fails_each_same = λ op. both (a.fails_same op) (h.fails_each_same op);
          fails_last_same = λ op. last_same op r rs (a.fails_same op) (h.fails_last_same op);
          fails_head_same = a.fails_same;
          hits_each_same = λ op. both (a.hits_same op) (h.hits_each_same op);
          hits_first_same = λ op. either (a.hits_same op) (both (a.fails_same op) (h.hits_first_same op));
          hits_some_same = λ op. either (a.hits_same op) (h.hits_some_same op);
          hits_head_same = a.hits_same;
          adds_some_same = either a.adds_same h.adds_some_same;
          adds_first_same = either a.adds_same (both (a.fails_same Add) h.adds_first_same);
          adds_head_same = a.adds_same;
        }
      where
        last_same : (op : Op) (r : Route) (rs : Routes) → can_fail op (plain_for one text r) ≡ can_fail op (plain_for other text r) → fails_last op (plain_for_all one text rs) ≡ fails_last op (plain_for_all other text rs) → fails_last op (plain_for_all one text (More r rs)) ≡ fails_last op (plain_for_all other text (More r rs))
        last_same op r End a h = a
        last_same op r (More q qs) a h = h

    policies_same : (ps : Policies) → PoliciesSame (plain_for_policies one text ps) (plain_for_policies other text ps)
    policies_same (Otherwise r) = let a = same r in record { fails_policy_same = a.fails_same; hits_policy_same = a.hits_same; adds_policy_same = a.adds_same }
    policies_same (Policy o r ps) =
        let a = same r in
        let h = policies_same ps in
        record {
          fails_policy_same = λ op. ap₂ (λ x y. cond (same_op o op) x y) (a.fails_same op) (h.fails_policy_same op);
          hits_policy_same = λ op. ap₂ (λ x y. cond (same_op o op) x y) (a.hits_same op) (h.hits_policy_same op);
          adds_policy_same = ap₂ (λ x y. cond (same_op o Add) x y) a.adds_same h.adds_policy_same;
        }

    chosen_same : (ps : Prefixes) (best : Option (List ℕ × Route)) → AtBest best → Same (plain_for one text (chosen text ps best)) (plain_for other text (chosen text ps best))
    chosen_same (Wildcard r) None h = same r
    chosen_same (Wildcard r) (Some best) h = h
    chosen_same (Prefix p r ps) best h = chosen_same ps (cond (begins p text && is_longer p best) (Some (p, r)) best) (at_best (begins p text && is_longer p best) p r best (same r) h)
