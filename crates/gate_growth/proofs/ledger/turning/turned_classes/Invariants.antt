use Rattle.std.proofs.Common.{◌≡◌, ◌∷◌, None, Some, map, take}
use Rattle.gate_growth.specs.Classes.{class_prefixes}
use Rattle.gate_growth.specs.Turning.{TurnsTrees}
use Rattle.gate_growth.proofs.ledger.turning.turned_classes.Given as goal

abbrev pub invariant-loop-text : goal.invariant-loop-text
invariant-loop-text l = (class_prefixes l.all.classes.items ≡ None ∷ map Some (take l.text-index l.texts)) × TurnsTrees l.known l.step l.all.classes.items l.all.gap
