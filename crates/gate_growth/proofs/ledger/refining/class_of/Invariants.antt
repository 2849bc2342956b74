use Rattle.std.proofs.Common.{◌≡◌, ◌<◌, Some, length, slice_get, take, true}
use Rattle.route_tree.specs.At.{begins}
use Rattle.route_tree.specs.Place.{prefix_text}
use Rattle.gate_growth.specs.declared.ledger.class.ClassPages.{ClassPages}
use Rattle.gate_growth.specs.Classes.{AreClasses, NoneLonger}
use Rattle.gate_growth.proofs.ledger.refining.class_of.Given as goal

abbrev pub invariant-loop-index : goal.invariant-loop-index
invariant-loop-index l =
    (l.best < length l.classes)
    × ((class : ClassPages) → slice_get l.classes l.best ≡ Some class → AreClasses l.classes → (begins (prefix_text class.prefix) l.text ≡ true) × NoneLonger (take l.index l.classes) l.text class)
