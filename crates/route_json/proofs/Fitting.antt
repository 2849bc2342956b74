-- Routes that were read fit into depth and count.
use Rattle.std.proofs.Common.{◌≡◌, ◌≤◌, ◌<◌, ℕ, ◌+◌, ◌*◌, List, [], ◌∷◌, ◌++◌, length, Result, Ok, refl, sym, ap, arith, subst}
use Rattle.mc_types.specs.KeyText.{IsKey}
use Rattle.mc_types.specs.declared.ask.Op.{Op}
use Rattle.route_tree.specs.Route.{Route, ByOperation, ByPrefix, HasChild, IsGood, AreGood, ArePoliciesGood, ArePrefixesGood, depth, depth_of_all, depth_of_policies, depth_of_prefixes, count, count_of_all, count_of_policies, count_of_prefixes}
use Rattle.route_tree.specs.Form.{routes_of, policies_of, prefixes_of}
use Rattle.route_json.specs.declared.names.kinds.Lists.{Lists}
use Rattle.route_json.specs.declared.names.kinds.Lists.TheVariants.{AllSync, Failover, MissFailover}
use Rattle.route_json.specs.Fault.{Fault}
use Rattle.route_json.specs.Fits.{IsBelow, AreBelow, ArePoliciesBelow, ArePrefixesBelow, FitsBounds, AllFit, NodeFits, seconds, AreKeys}
use Rattle.route_json.specs.Reading.{Reading}
use Rattle.route_json.specs.Routes.{listed}
use Rattle.route_json.proofs.Each.{Goes, goes}

-- ---- lists

good_push : (xs : List Route) (r : Route) → AreGood (routes_of xs) → IsGood r → AreGood (routes_of (xs ++ r ∷ []))
good_push [] r h g = (g, tt)
good_push (x ∷ xs) r h g = (h.0, good_push xs r h.1 g)

below_push : (b : ℕ) (xs : List Route) (r : Route) → AreBelow b (routes_of xs) → IsBelow b r → AreBelow b (routes_of (xs ++ r ∷ []))
below_push b [] r h g = (g, tt)
below_push b (x ∷ xs) r h g = (h.0, below_push b xs r h.1 g)

deep_push : (l : ℕ) (xs : List Route) (r : Route) → depth_of_all (routes_of xs) ≤ l → depth r ≤ l → depth_of_all (routes_of (xs ++ r ∷ [])) ≤ l
deep_push l [] r h g = omega arith
deep_push l (x ∷ xs) r h g = omega (arith, deep_push l xs r (omega arith) g)

count_push : (xs : List Route) (r : Route) → count_of_all (routes_of (xs ++ r ∷ [])) ≡ count_of_all (routes_of xs) + count r
count_push [] r = omega arith
count_push (x ∷ xs) r = omega (arith, count_push xs r)

all_fit_push : (b l w n k m : ℕ) (xs : List Route) (r : Route) → AllFit b l w n xs k → FitsBounds b l w k r m → AllFit b l w n (xs ++ r ∷ []) m
all_fit_push b l w n k m xs r h g = record {
  good = good_push xs r h.good g.good;
  below = below_push b xs r h.below g.below;
  deep = deep_push l xs r h.deep g.deep;
  many = let e : w * count_of_all (routes_of (xs ++ r ∷ [])) ≡ w * (count_of_all (routes_of xs) + count r) = ap (λ c. w * c) (count_push xs r) in omega (arith, e, h.many, g.many);
}

module _ {X A : Type 0} (read : X → Reading ℕ A) (all : Result (List A × ℕ) Fault) (b l w first : ℕ) where
  -- a loop that reads routes
  pub record Reads (left : List X) (done : List A) (routes : List Route) (n : ℕ) : Type 0 where
    pub reads : Goes read all left done n
    pub fits : AllFit b l w first routes n
    pub counted : n ≤ 4096

  pub reads_go : (xs left : List X) (x : X) (a : A) (r : Route) (done done' : List A) (routes routes' : List Route) (n m : ℕ) → Reads xs done routes n → xs ≡ x ∷ left → read x n ≡ Ok (a, m) → done' ≡ done ++ a ∷ [] → routes' ≡ routes ++ r ∷ [] → FitsBounds b l w n r m → m ≤ 4096 → Reads left done' routes' m
  reads_go xs left x a r done done' routes routes' n m h at e is also fit le = record {
    reads = goes read all xs left x a done done' n m h.reads at e is;
    fits = subst (λ rs. AllFit b l w first rs m) (sym also) (all_fit_push b l w first n m routes r h.fits fit);
    counted = le;
  }

not_empty : (xs : List Route) → 0 < length xs → HasChild (routes_of xs)
not_empty [] h = absurd (omega arith)
not_empty (x ∷ xs) h = tt

pub listed_fits : (lists : Lists) (b l w n m : ℕ) (rs : List Route) → 0 < length rs → AllFit b l w n rs m → NodeFits b l w n (listed lists (routes_of rs)) m
listed_fits AllSync b l w n m rs s h = record { good = (not_empty rs s, h.good); below = h.below; deep = omega (arith, h.deep); many = omega (arith, h.many) }
listed_fits Failover b l w n m rs s h = record { good = (not_empty rs s, h.good); below = h.below; deep = omega (arith, h.deep); many = omega (arith, h.many) }
listed_fits MissFailover b l w n m rs s h = record { good = (not_empty rs s, h.good); below = h.below; deep = omega (arith, h.deep); many = omega (arith, h.many) }

-- ---- policies

pub seconds_push : {K : Type 0} (ps : List (K × Route)) (p : K × Route) → seconds (ps ++ p ∷ []) ≡ seconds ps ++ p.1 ∷ []
seconds_push [] p = refl
seconds_push (q ∷ qs) p = ap (λ rs. q.1 ∷ rs) (seconds_push qs p)

pub keys_push : (ps : List (List ℕ × Route)) (p : List ℕ × Route) → AreKeys ps → IsKey p.0 → AreKeys (ps ++ p ∷ [])
keys_push [] p h k = (k, tt)
keys_push (q ∷ qs) p h k = (h.0, keys_push qs p h.1 k)

module _ (d : Route) where
  ops_good : (ps : List (Op × Route)) → AreGood (routes_of (seconds ps)) → IsGood d → ArePoliciesGood (policies_of ps d)
  ops_good [] h g = g
  ops_good (p ∷ ps) h g = (h.0, ops_good ps h.1 g)

  ops_below : (b : ℕ) (ps : List (Op × Route)) → AreBelow b (routes_of (seconds ps)) → IsBelow b d → ArePoliciesBelow b (policies_of ps d)
  ops_below b [] h g = g
  ops_below b (p ∷ ps) h g = (h.0, ops_below b ps h.1 g)

  ops_deep : (l : ℕ) (ps : List (Op × Route)) → depth_of_all (routes_of (seconds ps)) ≤ l → depth d ≤ l → depth_of_policies (policies_of ps d) ≤ l
  ops_deep l [] h g = g
  ops_deep l (p ∷ ps) h g = omega (arith, h, ops_deep l ps (omega (arith, h)) g)

  ops_count : (ps : List (Op × Route)) → count_of_policies (policies_of ps d) ≡ count_of_all (routes_of (seconds ps)) + count d
  ops_count [] = omega arith
  ops_count (p ∷ ps) = omega (arith, ops_count ps)

  prefixes_good : (ps : List (List ℕ × Route)) → AreKeys ps → AreGood (routes_of (seconds ps)) → IsGood d → ArePrefixesGood (prefixes_of ps d)
  prefixes_good [] k h g = g
  prefixes_good (p ∷ ps) k h g = (k.0, h.0, prefixes_good ps k.1 h.1 g)

  prefixes_below : (b : ℕ) (ps : List (List ℕ × Route)) → AreBelow b (routes_of (seconds ps)) → IsBelow b d → ArePrefixesBelow b (prefixes_of ps d)
  prefixes_below b [] h g = g
  prefixes_below b (p ∷ ps) h g = (h.0, prefixes_below b ps h.1 g)

  prefixes_deep : (l : ℕ) (ps : List (List ℕ × Route)) → depth_of_all (routes_of (seconds ps)) ≤ l → depth d ≤ l → depth_of_prefixes (prefixes_of ps d) ≤ l
  prefixes_deep l [] h g = g
  prefixes_deep l (p ∷ ps) h g = omega (arith, h, prefixes_deep l ps (omega (arith, h)) g)

  prefixes_count : (ps : List (List ℕ × Route)) → count_of_prefixes (prefixes_of ps d) ≡ count_of_all (routes_of (seconds ps)) + count d
  prefixes_count [] = omega arith
  prefixes_count (p ∷ ps) = omega (arith, prefixes_count ps)

  module _ (b l w n k m : ℕ) (g : FitsBounds b l w k d m) where
    pub ops_fit : (ps : List (Op × Route)) → AllFit b l w n (seconds ps) k → NodeFits b l w n (ByOperation (policies_of ps d)) m
    ops_fit ps h = record {
      good = ops_good ps h.good g.good;
      below = ops_below b ps h.below g.below;
      deep = omega (arith, ops_deep l ps h.deep g.deep);
      many = let e : w * count_of_policies (policies_of ps d) ≡ w * (count_of_all (routes_of (seconds ps)) + count d) = ap (λ c. w * c) (ops_count ps) in omega (arith, e, h.many, g.many);
    }

    pub prefixes_fit : (ps : List (List ℕ × Route)) → AreKeys ps → AllFit b l w n (seconds ps) k → NodeFits b l w n (ByPrefix (prefixes_of ps d)) m
    prefixes_fit ps keys h = record {
      good = prefixes_good ps keys h.good g.good;
      below = prefixes_below b ps h.below g.below;
      deep = omega (arith, prefixes_deep l ps h.deep g.deep);
      many = let e : w * count_of_prefixes (prefixes_of ps d) ≡ w * (count_of_all (routes_of (seconds ps)) + count d) = ap (λ c. w * c) (prefixes_count ps) in omega (arith, e, h.many, g.many);
    }
