-- An empty list is like no other.
use Rattle.std.proofs.Common.{◌≡◌, ◌<◌, ◌≤◌, false, List, [], ◌∷◌, length, refl, arith}
use Rattle.mc_types.specs.declared.ask.Op.{Op}
use Rattle.route_tree.specs.Form.{routes_of, policies_of}
use Rattle.route_tree.specs.Route.{Route}
use Rattle.gate_picture.specs.Alike.{all_alike, policies_alike}

pub none_like_some : (xs ys : List Route) → length xs < 1 → 1 ≤ length ys → false ≡ all_alike (routes_of xs) (routes_of ys)
none_like_some [] [] few some = absurd (omega (arith, some))
none_like_some [] (y ∷ ys) few some = refl
none_like_some (x ∷ xs) ys few some = absurd (omega (arith, few))

pub default_like_policy : (xs ys : List (Op × Route)) (d e : Route) → length xs < 1 → 1 ≤ length ys → false ≡ policies_alike (policies_of xs d) (policies_of ys e)
default_like_policy [] [] d e few some = absurd (omega (arith, some))
default_like_policy [] (y ∷ ys) d e few some = refl
default_like_policy (x ∷ xs) ys d e few some = absurd (omega (arith, few))
