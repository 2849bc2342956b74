use Rattle.std.proofs.Common.{◌≡◌, ◌≤◌, ◌∙◌, Option, Some, sym, subst}
use Rattle.std.specs.Prelude.{IfSome}
use Rattle.serde_json.specs.Data.{depth}
use Rattle.serde_json.specs.Read.{read, max_depth}
use Rattle.serde_json.specs.View.{view}
use Rattle.serde_json.specs.declared.value.Value.{Value}
use Rattle.gate_plan.proofs.told.way_of.Goals as goal

pub returns : goal.returns
returns c =
    let said = subst (λ (found : Option Value). IfSome found (λ value. (read c.args.new.now ≡ Some (view value)) × (depth (view value) ≤ max_depth))) c.in-Some-2.is c.in_ok-new.ensures in
    c.in_ok-new-2.ensures.reads_back said.1 ∙ sym said.0
