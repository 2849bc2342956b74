-- A route, level by level.
use Rattle.std.proofs.Common.{◌≡◌, ℕ, suc, Result, Ok, Err, List, ap, ◌∙◌}
use Rattle.serde_json.specs.Data.{Data}
use Rattle.route_json.specs.Fault.{Fault, TooDeep}
use Rattle.route_json.specs.Pools.{Pools}
use Rattle.route_json.specs.Reading.{then_read}
use Rattle.route_json.specs.Routes.{counts_route, node, route}

module _ (pools : Pools) (w : ℕ) (field : List ℕ) (d : Data) (n : ℕ) where
  pub route_deep : (levels : ℕ) → levels ≡ 0 → route pools levels w field d n ≡ Err TooDeep
  unfolding route
  route_deep levels e = ap (λ k. route pools k w field d n) e

  route_node : (levels l : ℕ) → levels ≡ suc l → route pools levels w field d n ≡ then_read (counts_route w n) (λ _. node pools l w (route pools l) field d)
  unfolding route
  route_node levels l e = ap (λ k. route pools k w field d n) e

  pub route_counted : (levels l k : ℕ) → levels ≡ suc l → counts_route w n ≡ Ok (tt, k) → route pools levels w field d n ≡ node pools l w (route pools l) field d k
  route_counted levels l k e q = route_node levels l e ∙ ap (λ (z : Result (Unit {0} × ℕ) Fault). then_read z (λ _. node pools l w (route pools l) field d)) q

  pub route_many : (levels l : ℕ) (f : Fault) → levels ≡ suc l → counts_route w n ≡ Err f → route pools levels w field d n ≡ Err f
  route_many levels l f e q = route_node levels l e ∙ ap (λ (z : Result (Unit {0} × ℕ) Fault). then_read z (λ _. node pools l w (route pools l) field d)) q
