-- The configuration of one pool: its addresses are distinct, and its servers are as many.
use Rattle.std.proofs.Common.{◌≡◌, ◌≤◌, ◌<◌, ◌+◌, ◌^◌, ℕ, zero, suc, false, ◌||◌, codes, decimal, List, [], ◌∷◌, ◌++◌, length, map, refl, sym, ap, ap₂, ◌∙◌, arith, subst, add-one, length-append}
use Rattle.std.specs.List.{list_any}
use Rattle.std.specs.Str.{bytes_eq}
use Rattle.std.proofs.lemmas.Bool.{false_from_ne_true}
use Rattle.std.proofs.lemmas.Fmt.{decimal_injective}
use Rattle.std.proofs.lemmas.List.{append_cancel_left, append_cancel_right, map-append}
use Rattle.std.proofs.lemmas.List.Folds.{list_any-append}
use Rattle.std.proofs.lemmas.Slice.Eq.{bytes_eq-Decides}
use Rattle.route_tree.specs.Route.{Pool, IsTree}
use Rattle.route_json.specs.Configuration.{Configuration}
use Rattle.route_json.specs.Fits.{IsBelow}
use Rattle.route_json.specs.Pools.{AllBelow}
use Rattle.route_json.specs.PoolConfiguration.{numbers_below, pool_address, pool_configuration}
use Rattle.route_json.specs.Servers.{Addresses}
use Rattle.route_json.proofs.Numbers.{below_push}

-- the first n servers and their addresses
pub record PoolSoFar (n : ℕ) (servers : List ℕ) (addresses : Addresses) : Type 0 where
  pub servers_are : servers ≡ numbers_below n
  pub addresses_are : addresses ≡ map pool_address (numbers_below n)

pub pool_begins : PoolSoFar 0 [] []
pool_begins = record { servers_are = refl; addresses_are = refl }

numbers_length : (n : ℕ) → length (numbers_below n) ≡ n
numbers_length zero = refl
numbers_length (suc n) = omega (arith, length-append (numbers_below n) (n ∷ []), numbers_length n)

addresses_length : (xs : List ℕ) → length (map pool_address xs) ≡ length xs
addresses_length [] = refl
addresses_length (x ∷ xs) = ap suc (addresses_length xs)

-- ---- the addresses are distinct

different : (m n : ℕ) → m < n → n < 2 ^ 32 → bytes_eq (pool_address n) (pool_address m) ≡ false
different m n lt small = false_from_ne_true (bytes_eq (pool_address n) (pool_address m)) (λ same.
    let texts : pool_address n ≡ pool_address m = (bytes_eq-Decides (pool_address n) (pool_address m)).0 same in
    let ends : decimal n ++ codes ":1" ≡ decimal m ++ codes ":1" = append_cancel_left (codes "s") (decimal n ++ codes ":1") (decimal m ++ codes ":1") texts in
    let numbers : n ≡ m = decimal_injective n m (omega (arith, small)) (omega (arith, small, lt)) (append_cancel_right (decimal n) (decimal m) (codes ":1") ends) in
    absurd (omega (arith, numbers, lt)))

new_after : (n k : ℕ) → k ≤ n → n < 2 ^ 32 → list_any (bytes_eq (pool_address n)) (map pool_address (numbers_below k)) ≡ false
new_after n zero le small = refl
new_after n (suc k) le small =
    ap (list_any (bytes_eq (pool_address n))) (map-append pool_address (numbers_below k) (k ∷ []))
    ∙ list_any-append (bytes_eq (pool_address n)) (map pool_address (numbers_below k)) (pool_address k ∷ [])
    ∙ ap₂ (λ a b. a || (b || false)) (new_after n k (omega (arith, le)) small) (different k n (omega (arith, le)) small)

pub is_new : (n : ℕ) (servers : List ℕ) (addresses : Addresses) (address : List ℕ) → PoolSoFar n servers addresses → n < 2 ^ 32 → address ≡ pool_address n → list_any (bytes_eq address) addresses ≡ false
is_new n servers addresses address h small is =
    ap₂ (λ (a : List ℕ) (l : Addresses). list_any (bytes_eq a) l) is h.addresses_are ∙ new_after n n (omega arith) small

-- ---- a step, and what there is at the end

pub has_room : (n : ℕ) (servers : List ℕ) (addresses : Addresses) → PoolSoFar n servers addresses → length addresses ≡ n
has_room n servers addresses h = ap length h.addresses_are ∙ addresses_length (numbers_below n) ∙ numbers_length n

grown : (n : ℕ) (servers servers' : List ℕ) (addresses addresses' : Addresses) (server : ℕ) (address : List ℕ) → PoolSoFar n servers addresses → server ≡ length addresses → address ≡ pool_address n → servers' ≡ servers ++ server ∷ [] → addresses' ≡ addresses ++ address ∷ [] → PoolSoFar (suc n) servers' addresses'
grown n servers servers' addresses addresses' server address h number is more added = record {
  servers_are = more ∙ ap₂ (λ (l : List ℕ) (x : ℕ). l ++ x ∷ []) h.servers_are (number ∙ has_room n servers addresses h);
  addresses_are = added ∙ ap₂ (λ (l : Addresses) (x : List ℕ). l ++ x ∷ []) h.addresses_are is ∙ sym (map-append pool_address (numbers_below n) (n ∷ []));
}

pub pool_grows : (n : ℕ) (servers servers' : List ℕ) (addresses addresses' : Addresses) (server : ℕ) (address : List ℕ) → PoolSoFar n servers addresses → server ≡ length addresses → address ≡ pool_address n → servers' ≡ servers ++ server ∷ [] → addresses' ≡ addresses ++ address ∷ [] → PoolSoFar (n + 1) servers' addresses'
pool_grows n servers servers' addresses addresses' server address h number is more added =
    subst (λ k. PoolSoFar k servers' addresses') (sym (add-one n)) (grown n servers servers' addresses addresses' server address h number is more added)

numbers_are_below : (b n : ℕ) → n ≤ b → AllBelow b (numbers_below n)
numbers_are_below b zero le = tt
numbers_are_below b (suc n) le = below_push b (numbers_below n) n (numbers_are_below b n (omega (arith, le))) (omega (arith, le))

module _ (n : ℕ) (servers : List ℕ) (addresses : Addresses) (h : PoolSoFar n servers addresses) where
  pub pool_is_tree : 0 < n → n ≤ 1024 → IsTree (Pool servers)
  pool_is_tree some few =
      let many : length servers ≡ n = ap length h.servers_are ∙ numbers_length n in
      record { good = (omega (arith, many, some), omega (arith, many, few)); deep = omega arith; many = omega arith }

  pub pool_is_below : IsBelow (length addresses) (Pool servers)
  pool_is_below =
      subst (λ l. AllBelow (length addresses) l) (sym h.servers_are) (numbers_are_below (length addresses) n (omega (arith, has_room n servers addresses h)))

  pub whole_pool : (config : Configuration) → config ≡ record { tree = Pool servers; servers = addresses } → config ≡ pool_configuration n
  whole_pool config is = is ∙ ap₂ (λ (l : List ℕ) (a : Addresses). let c : Configuration = record { tree = Pool l; servers = a } in c) h.servers_are h.addresses_are
