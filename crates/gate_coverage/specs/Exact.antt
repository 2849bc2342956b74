-- What is computed is what the words say, and where each tree covers the later ones every delete clears what is later taken.
use Rattle.std.specs.Prelude.{◌↔◌, ℕ, ◌<◌, List, IsTrue}
use Rattle.mc_types.specs.declared.ask.Op.{Op}
use Rattle.fresh_runs.specs.Cover.{IsCovered}
use Rattle.route_tree.specs.Plan.{Plan, IsGoodPlan}
use Rattle.route_tree.specs.Word.{tree_words}
use Rattle.gate_coverage.specs.declared.deleting.Deleting.{Deleting}
use Rattle.gate_coverage.specs.Cover.{Takes, Clears, Covers}
use Rattle.gate_coverage.specs.Computed.{takes_server, cleared}

-- what is computed of a read is exact
abbrev pub TakenIsExact : Type 0
TakenIsExact = (plain : Plan) (op : Op) (s : ℕ) → IsGoodPlan plain → IsTrue (takes_server plain op s) ↔ Takes plain op s

-- what is computed of a delete is exact
abbrev pub ClearedIsExact : Type 0
ClearedIsExact = (plain : Plan) (kind : Deleting) (s : ℕ) → IsGoodPlan plain → IsTrue (cleared plain s) ↔ Clears plain kind s

-- where each tree covers itself and the later ones, deletes clear what later commands take
abbrev pub CoveringIsCovered : Type 0
CoveringIsCovered =
    (at : ℕ → List ℕ → Plan) → ((n m : ℕ) (key : List ℕ) → n < m → Covers (at n key) (at m key)) → IsCovered (tree_words at)
