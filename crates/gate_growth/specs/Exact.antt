-- What is computed is what the words say.
use Rattle.std.specs.Prelude.{◌↔◌, ℕ, IsTrue}
use Rattle.route_tree.specs.Plan.{Plan, IsGoodPlan}
use Rattle.gate_growth.specs.Puts.{Puts}
use Rattle.gate_growth.specs.PutsComputed.{puts}

abbrev pub PutsIsExact : Type 0
PutsIsExact = (plain : Plan) (s : ℕ) → IsGoodPlan plain → IsTrue (puts plain s) ↔ Puts plain s
