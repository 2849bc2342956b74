use Rattle.std.proofs.Common.{◌≡◌, [], ◌∷◌, None, Some, map, take}
use Rattle.route_tree.specs.Each.{Each}
use Rattle.gate_check.specs.declared.places.table.Class.{Class}
use Rattle.gate_check.specs.Valid.{IsClass}
use Rattle.gate_check.proofs.places.making.classes_of_two.Given as goal

abbrev pub invariant-loop-text : goal.invariant-loop-text
invariant-loop-text l =
    (map (λ (c : Class). c.prefix) l.classes.items ≡ None ∷ map Some (take l.text-index l.texts)) × Each (IsClass (l.first ∷ l.second ∷ [])) l.classes.items
