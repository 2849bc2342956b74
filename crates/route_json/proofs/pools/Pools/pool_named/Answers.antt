use Rattle.std.proofs.Common.{◌≡◌, ℕ, List, length, ap, sym, subst}
use Rattle.route_json.specs.Pools.{Pools, pools_of, slotted, IsPool, ArePools}
use Rattle.route_json.proofs.Gives.{if_some_weaker}
use Rattle.route_json.proofs.pools.Pools.pool_named.Goals as goal

pub returns-clause-good : goal.returns-clause-good
returns-clause-good c =
    let n = length c.self.inside.servers in
    let is : n ≡ length c.args.self.now.1 = ap (λ (v : Pools × List (List ℕ)). length v.1) c.self.view_is in
    if_some_weaker c.find.result _ _ (λ s h. subst (λ b. IsPool b (slotted s.now)) is h) (c.find.ensures.good n (subst (λ l. ArePools n (pools_of l)) (sym c.deref.ensures.value) c.self.invariant))
