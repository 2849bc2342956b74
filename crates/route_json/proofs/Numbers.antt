-- The loops over a pool's list and over the pools.
use Rattle.std.proofs.Common.{cond, nat_eq, nat_lt, zero, suc, get_or, ◌≡◌, ◌≤◌, ◌<◌, ℕ, ◌+◌, List, [], ◌∷◌, ◌++◌, length, Result, Ok, Err, refl, sym, ap, ◌∙◌, arith, subst, length-append}
use Rattle.std.proofs.lemmas.Bool.Decides.{nat_tests}
use Rattle.serde_json.specs.View.{items_view}
use Rattle.serde_json.specs.declared.value.Value.{Value}
use Rattle.std.proofs.Common.{string_bytes}
use Rattle.route_json.specs.declared.pools.NamedPool.{NamedPool}
use Rattle.route_json.specs.declared.pools.WeightedServer.{WeightedServer}
use Rattle.route_json.specs.Fault.{Fault, EmptyPool, TooManyServers}
use Rattle.route_json.specs.Pools.{Pools, Slotted, slotted, AllBelow, AreWeighted, IsPool, ArePools, pools_of, servers_in, pool_list}
use Rattle.route_json.specs.Reading.{Reading, values}
use Rattle.route_json.specs.Servers.{Addresses}
use Rattle.route_json.proofs.Each.{Goes, goes, values_length}

weighted_more : (b d : ℕ) (ss : List WeightedServer) → b ≤ d → AreWeighted b ss → AreWeighted d ss
weighted_more b d [] le h = tt
weighted_more b d (s ∷ ss) le h = (omega (arith, h.0), h.1, h.2, weighted_more b d ss le h.3)

weighted_push : (b : ℕ) (ss : List WeightedServer) (s : WeightedServer) → AreWeighted b ss → s.server < b → (0 < s.weight) × (s.weight ≤ 16) → AreWeighted b (ss ++ s ∷ [])
weighted_push b [] s h lt weight = (lt, weight.0, weight.1, tt)
weighted_push b (t ∷ ts) s h lt weight = (h.0, h.1, h.2, weighted_push b ts s h.3 lt weight)

pub below_push : (b : ℕ) (xs : List ℕ) (x : ℕ) → AllBelow b xs → x < b → AllBelow b (xs ++ x ∷ [])
below_push b [] x h lt = (lt, tt)
below_push b (y ∷ ys) x h lt = (h.0, below_push b ys x h.1 lt)

below_more : (b d : ℕ) (xs : List ℕ) → b ≤ d → AllBelow b xs → AllBelow d xs
below_more b d [] le h = tt
below_more b d (x ∷ xs) le h = (omega (arith, h.0), below_more b d xs le h.1)

pool_more : (b d : ℕ) (p : Slotted) → b ≤ d → IsPool b p → IsPool d p
pool_more b d p le h = record {
  servers = (h.servers.0, h.servers.1, weighted_more b d p.servers le h.servers.2);
  slots = (h.slots.0, h.slots.1, below_more b d p.slots le h.slots.2);
}

pools_more : (b d : ℕ) (ps : Pools) → b ≤ d → ArePools b ps → ArePools d ps
pools_more b d [] le h = tt
pools_more b d (p ∷ ps) le h = (pool_more b d p.1 le h.0, pools_more b d ps le h.1)

pools_push : (b : ℕ) (ps : Pools) (p : List ℕ × Slotted) → ArePools b ps → IsPool b p.1 → ArePools b (ps ++ p ∷ [])
pools_push b [] p h good = (good, tt)
pools_push b (q ∷ qs) p h good = (h.0, pools_push b qs p h.1 good)

module _ {X : Type 0} (read : X → Reading Addresses WeightedServer) (all : Result (List WeightedServer × Addresses) Fault) where
  -- a loop over a pool's list
  pub record Numbers (left : List X) (done : List WeightedServer) (first known : Addresses) (i : ℕ) : Type 0 where
    pub reads : Goes read all left done known
    pub weighted : AreWeighted (length known) done
    pub more : length first ≤ length known
    pub many : length done ≡ i

  pub numbers_go : (xs left : List X) (x : X) (s : WeightedServer) (done done' : List WeightedServer) (first known known' : Addresses) (i : ℕ) → Numbers xs done first known i → xs ≡ x ∷ left → read x known ≡ Ok (s, known') → done' ≡ done ++ s ∷ [] → s.server < length known' → (0 < s.weight) × (s.weight ≤ 16) → length known ≤ length known' → Numbers left done' first known' (i + 1)
  numbers_go xs left x s done done' first known known' i h at e is lt weight le = record {
    reads = goes read all xs left x s done done' known known' h.reads at e is;
    weighted = subst (AreWeighted (length known')) (sym is) (weighted_push (length known') done s (weighted_more (length known) (length known') done le h.weighted) lt weight);
    more = omega (arith, h.more);
    many = ap length is ∙ length-append done (s ∷ []) ∙ ap (λ j. j + 1) h.many;
  }

module _ {X : Type 0} (read : X → Reading Addresses (List ℕ × Slotted)) (all : Result (Pools × Addresses) Fault) where
  -- a loop over the pools
  pub record ManyPools (left : List X) (done : Pools) (known : Addresses) : Type 0 where
    pub reads : Goes read all left done known
    pub good : ArePools (length known) done

  pub pools_go : (xs left : List X) (x : X) (p : List ℕ × Slotted) (done done' : Pools) (known known' : Addresses) → ManyPools xs done known → xs ≡ x ∷ left → read x known ≡ Ok (p, known') → done' ≡ done ++ p ∷ [] → IsPool (length known') p.1 → length known ≤ length known' → ManyPools left done' known'
  pools_go xs left x p done done' known known' h at e is good le = record {
    reads = goes read all xs left x p done done' known known' h.reads at e is;
    good = subst (ArePools (length known')) (sym is) (pools_push (length known') done p (pools_more (length known) (length known') done le h.good) good);
  }

by_count : (n : ℕ) {R : Type 0} (a b c : R) → (0 < n → 1024 < n → cond (nat_eq n 0) a (cond (nat_lt 1024 n) b c) ≡ b) × (0 < n → n ≤ 1024 → cond (nat_eq n 0) a (cond (nat_lt 1024 n) b c) ≡ c)
by_count n a b c = (λ h k. grind (arith, nat_tests), λ h k. grind (arith, nat_tests))

module _ (pool : List ℕ) (vs : List Value) (known : Addresses) where
  by_length : (n : ℕ) → length (values (items_view vs)) ≡ n → pool_list pool (values (items_view vs)) known ≡ cond (nat_eq n 0) (Err (EmptyPool pool)) (cond (nat_lt 1024 n) (Err (TooManyServers pool)) (servers_in pool (values (items_view vs)) known))
  by_length n e = ap (λ k. cond (nat_eq k 0) (Err (EmptyPool pool)) (cond (nat_lt 1024 k) (Err (TooManyServers pool)) (servers_in pool (values (items_view vs)) known))) e

  pub list_many : 1024 < length vs → pool_list pool (values (items_view vs)) known ≡ Err (TooManyServers pool)
  list_many h = by_length (length vs) (values_length vs) ∙ (by_count (length vs) _ _ _).0 (omega (arith, h)) h

  pub list_some : 0 < length vs → length vs ≤ 1024 → pool_list pool (values (items_view vs)) known ≡ servers_in pool (values (items_view vs)) known
  list_some some few = by_length (length vs) (values_length vs) ∙ (by_count (length vs) _ _ _).1 some few

pub pools_of_push : (ps : List NamedPool) (p : NamedPool) → pools_of (ps ++ p ∷ []) ≡ pools_of ps ++ (string_bytes p.name, slotted p.pool) ∷ []
pools_of_push [] p = refl
pools_of_push (q ∷ qs) p = ap (λ rest. (string_bytes q.name, slotted q.pool) ∷ rest) (pools_of_push qs p)

pub server_at_below : (b : ℕ) (ss : List WeightedServer) (i : ℕ) (s : WeightedServer) → AreWeighted b ss → i < length ss → s ≡ get_or ss i s → s.server < b
server_at_below b [] i s h lt e = absurd (omega arith)
server_at_below b (t ∷ ts) zero s h lt e = omega (arith, h.0, ap (λ (x : WeightedServer). x.server) e)
server_at_below b (t ∷ ts) (suc i) s h lt e = server_at_below b ts i s h.3 (omega arith) e
