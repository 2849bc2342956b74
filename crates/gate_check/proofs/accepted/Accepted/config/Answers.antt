use Rattle.std.proofs.Common.{◌≡◌, ◌∙◌, ◌-◌, ◌<◌, List, Some, length, slice_get, ap, subst, arith}
use Rattle.route_json.specs.Configuration.{Configuration}
use Rattle.gate_check.specs.Sound.{IsLast}
use Rattle.gate_check.proofs.Following.{config_at, length_trees}
use Rattle.gate_check.proofs.accepted.Accepted.config.Goals as goal

pub returns-clause-config : goal.returns-clause-config
returns-clause-config c =
    let xs = c.self.inside.configs.items in
    let some = c.self.invariant.some in
    let len = length_trees xs in
    let e : c.len.result - 1 ≡ length xs - 1 = ap (λ n. n - 1) (c.len.ensures ∙ c.self.inside.configs.ok.0) in
    let below : c.len.result - 1 < length xs = omega (arith, some, len, e) in
    subst (λ (l : List Configuration). IsLast l c.index.result.now) c.self.view_is
    (subst (λ n. slice_get xs n ≡ Some c.index.result.now) e (config_at xs (c.len.result - 1) c.index.result.now below c.index.ensures))
