-- What a recursion over a tree or a plain tree goes down to is smaller.
use Rattle.std.proofs.Common.{◌≡◌, ℕ, zero, suc, ◌+◌, ◌<◌, ◌≤◌, List, [], ◌∷◌, length, get_or, arith, ap}
use Rattle.mc_types.specs.declared.ask.Op.{Op}
use Rattle.route_tree.specs.Plan as plan
use Rattle.route_tree.specs.Plan.{Plan}
use Rattle.route_tree.specs.Route as route
use Rattle.route_tree.specs.Route.{Route}
use Rattle.route_tree.specs.PlanCode.{plan_size, all_plan_size, policies_plan_size}
use Rattle.route_tree.specs.RouteCode.{route_size, all_route_size, policies_route_size, prefixes_route_size}
use Rattle.route_tree.specs.Form.{plans_of, plan_policies_of, routes_of, policies_of, prefixes_of}

pub plan_some : (p : Plan) → 1 ≤ plan_size p
plan_some (plan.Server s) = omega arith
plan_some plan.Null = omega arith
plan_some plan.Failing = omega arith
plan_some (plan.AllSync ps) = omega arith
plan_some (plan.Failover ps) = omega arith
plan_some (plan.MissFailover ps) = omega arith
plan_some (plan.WarmUp c w e) = omega arith
plan_some (plan.ByOperation ps) = omega arith

pub plan_smaller : (xs : List Plan) (i : ℕ) (d : Plan) → i < length xs → plan_size (get_or xs i d) < all_plan_size (plans_of xs)
plan_smaller [] i d h = absurd (omega arith)
plan_smaller (x ∷ xs) zero d h = omega arith
plan_smaller (x ∷ xs) (suc i) d h = omega (arith, plan_smaller xs i d (omega arith))

pub plan_policy_smaller : (xs : List (Op × Plan)) (i : ℕ) (d : Op × Plan) → i < length xs → plan_size (get_or xs i d).1 < policies_plan_size (plan_policies_of xs plan.Null)
plan_policy_smaller [] i d h = absurd (omega arith)
plan_policy_smaller (x ∷ xs) zero d h = omega arith
plan_policy_smaller (x ∷ xs) (suc i) d h = omega (arith, plan_policy_smaller xs i d (omega arith))

-- whatever the default, the policies are no larger
pub plan_policies_size : (xs : List (Op × Plan)) (d : Plan) → policies_plan_size (plan_policies_of xs plan.Null) ≤ policies_plan_size (plan_policies_of xs d)
plan_policies_size [] d = omega (arith, plan_some d)
plan_policies_size (x ∷ xs) d = omega (arith, plan_policies_size xs d)

plan_default_smaller : (xs : List (Op × Plan)) (d : Plan) → plan_size d < policies_plan_size (plan_policies_of xs d)
plan_default_smaller [] d = omega arith
plan_default_smaller (x ∷ xs) d = omega (arith, plan_default_smaller xs d)

-- the children of a selector by operation are smaller than it
pub plan_policies_fall : (p : Plan) (xs ys : List (Op × Plan)) (d : Plan) → xs ≡ ys → plan.ByOperation (plan_policies_of ys d) ≡ p → policies_plan_size (plan_policies_of xs plan.Null) < plan_size p
plan_policies_fall p xs ys d e is =
    let size : policies_plan_size (plan_policies_of ys d) + 1 ≡ plan_size p = ap plan_size is in
    let same : policies_plan_size (plan_policies_of xs plan.Null) ≡ policies_plan_size (plan_policies_of ys plan.Null) = ap (λ l. policies_plan_size (plan_policies_of l plan.Null)) e in
    omega (arith, size, same, plan_policies_size ys d)

pub plan_default_falls : (p : Plan) (xs : List (Op × Plan)) (d : Plan) → plan.ByOperation (plan_policies_of xs d) ≡ p → plan_size d < plan_size p
plan_default_falls p xs d is =
    let size : policies_plan_size (plan_policies_of xs d) + 1 ≡ plan_size p = ap plan_size is in
    omega (arith, size, plan_default_smaller xs d)

-- an item of a list by its place
pub plan_item_falls : (xs : List Plan) (i : ℕ) (p : Plan) → i < length xs → p ≡ get_or xs i p → plan_size p < all_plan_size (plans_of xs)
plan_item_falls xs i p h e = let s : plan_size p ≡ plan_size (get_or xs i p) = ap plan_size e in omega (arith, s, plan_smaller xs i p h)

pub plan_policy_falls : (xs : List (Op × Plan)) (i : ℕ) (p : Op × Plan) → i < length xs → p ≡ get_or xs i p → plan_size p.1 < policies_plan_size (plan_policies_of xs plan.Null)
plan_policy_falls xs i p h e = let s : plan_size p.1 ≡ plan_size (get_or xs i p).1 = ap (λ (q : Op × Plan). plan_size q.1) e in omega (arith, s, plan_policy_smaller xs i p h)

route_some : (r : Route) → 1 ≤ route_size r
route_some (route.Pool ss) = omega arith
route_some (route.Server s) = omega arith
route_some route.Null = omega arith
route_some route.Failing = omega arith
route_some (route.AllSync ps) = omega arith
route_some (route.Failover ps) = omega arith
route_some (route.MissFailover ps) = omega arith
route_some (route.WarmUp c w e) = omega arith
route_some (route.ByOperation ps) = omega arith
route_some (route.ByPrefix ps) = omega arith

route_smaller : (xs : List Route) (i : ℕ) (d : Route) → i < length xs → route_size (get_or xs i d) < all_route_size (routes_of xs)
route_smaller [] i d h = absurd (omega arith)
route_smaller (x ∷ xs) zero d h = omega arith
route_smaller (x ∷ xs) (suc i) d h = omega (arith, route_smaller xs i d (omega arith))

pub route_item_falls : (xs : List Route) (i : ℕ) (r : Route) → i < length xs → r ≡ get_or xs i r → route_size r < all_route_size (routes_of xs)
route_item_falls xs i r h e = let s : route_size r ≡ route_size (get_or xs i r) = ap route_size e in omega (arith, s, route_smaller xs i r h)

policies_smaller_at : (xs : List (Op × Route)) (i : ℕ) (d : Op × Route) → i < length xs → route_size (get_or xs i d).1 < policies_route_size (policies_of xs route.Null)
policies_smaller_at [] i d h = absurd (omega arith)
policies_smaller_at (x ∷ xs) zero d h = omega arith
policies_smaller_at (x ∷ xs) (suc i) d h = omega (arith, policies_smaller_at xs i d (omega arith))

-- policies are no larger with `null` as the last one than with any other
policies_size : (xs : List (Op × Route)) (d : Route) → policies_route_size (policies_of xs route.Null) ≤ policies_route_size (policies_of xs d)
policies_size [] d = omega (arith, route_some d)
policies_size (x ∷ xs) d = omega (arith, policies_size xs d)

policies_last_smaller : (xs : List (Op × Route)) (d : Route) → route_size d < policies_route_size (policies_of xs d)
policies_last_smaller [] d = omega arith
policies_last_smaller (x ∷ xs) d = omega (arith, policies_last_smaller xs d)

-- the children of a selector are smaller than it
pub policies_fall : (r : Route) (xs ys : List (Op × Route)) (d : Route) → xs ≡ ys → route.ByOperation (policies_of ys d) ≡ r → policies_route_size (policies_of xs route.Null) < route_size r
policies_fall r xs ys d e is =
    let size : policies_route_size (policies_of ys d) + 1 ≡ route_size r = ap route_size is in
    let same : policies_route_size (policies_of xs route.Null) ≡ policies_route_size (policies_of ys route.Null) = ap (λ l. policies_route_size (policies_of l route.Null)) e in
    omega (arith, size, same, policies_size ys d)

pub policies_last_falls : (r : Route) (xs : List (Op × Route)) (d : Route) → route.ByOperation (policies_of xs d) ≡ r → route_size d < route_size r
policies_last_falls r xs d is =
    let size : policies_route_size (policies_of xs d) + 1 ≡ route_size r = ap route_size is in
    omega (arith, size, policies_last_smaller xs d)

pub policies_item_falls : (xs : List (Op × Route)) (i : ℕ) (p : Op × Route) → i < length xs → p ≡ get_or xs i p → route_size p.1 < policies_route_size (policies_of xs route.Null)
policies_item_falls xs i p h e = let s : route_size p.1 ≡ route_size (get_or xs i p).1 = ap (λ (q : Op × Route). route_size q.1) e in omega (arith, s, policies_smaller_at xs i p h)

prefixes_smaller_at : (xs : List (List ℕ × Route)) (i : ℕ) (d : List ℕ × Route) → i < length xs → route_size (get_or xs i d).1 < prefixes_route_size (prefixes_of xs route.Null)
prefixes_smaller_at [] i d h = absurd (omega arith)
prefixes_smaller_at (x ∷ xs) zero d h = omega arith
prefixes_smaller_at (x ∷ xs) (suc i) d h = omega (arith, prefixes_smaller_at xs i d (omega arith))

-- prefixes are no larger with `null` as the last one than with any other
prefixes_size : (xs : List (List ℕ × Route)) (d : Route) → prefixes_route_size (prefixes_of xs route.Null) ≤ prefixes_route_size (prefixes_of xs d)
prefixes_size [] d = omega (arith, route_some d)
prefixes_size (x ∷ xs) d = omega (arith, prefixes_size xs d)

prefixes_last_smaller : (xs : List (List ℕ × Route)) (d : Route) → route_size d < prefixes_route_size (prefixes_of xs d)
prefixes_last_smaller [] d = omega arith
prefixes_last_smaller (x ∷ xs) d = omega (arith, prefixes_last_smaller xs d)

-- the children of a selector are smaller than it
pub prefixes_fall : (r : Route) (xs ys : List (List ℕ × Route)) (d : Route) → xs ≡ ys → route.ByPrefix (prefixes_of ys d) ≡ r → prefixes_route_size (prefixes_of xs route.Null) < route_size r
prefixes_fall r xs ys d e is =
    let size : prefixes_route_size (prefixes_of ys d) + 1 ≡ route_size r = ap route_size is in
    let same : prefixes_route_size (prefixes_of xs route.Null) ≡ prefixes_route_size (prefixes_of ys route.Null) = ap (λ l. prefixes_route_size (prefixes_of l route.Null)) e in
    omega (arith, size, same, prefixes_size ys d)

pub prefixes_last_falls : (r : Route) (xs : List (List ℕ × Route)) (d : Route) → route.ByPrefix (prefixes_of xs d) ≡ r → route_size d < route_size r
prefixes_last_falls r xs d is =
    let size : prefixes_route_size (prefixes_of xs d) + 1 ≡ route_size r = ap route_size is in
    omega (arith, size, prefixes_last_smaller xs d)

pub prefixes_item_falls : (xs : List (List ℕ × Route)) (i : ℕ) (p : List ℕ × Route) → i < length xs → p ≡ get_or xs i p → route_size p.1 < prefixes_route_size (prefixes_of xs route.Null)
prefixes_item_falls xs i p h e = let s : route_size p.1 ≡ route_size (get_or xs i p).1 = ap (λ (q : List ℕ × Route). route_size q.1) e in omega (arith, s, prefixes_smaller_at xs i p h)
