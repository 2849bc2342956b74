use Rattle.std.proofs.Common.{◌≡◌, ◌∷◌, ◌++◌, [], List, length}
use Rattle.route_json.specs.Servers.{Addresses}
use Rattle.gate_history.specs.declared.generation.Generation.{Generation}
use Rattle.gate_history.specs.Remembering.{idle, AllLeft, AreRemembered}
use Rattle.gate_history.proofs.remembered.all_remembered.Given as goal

abbrev pub invariant-loop-number : goal.invariant-loop-number
invariant-loop-number l =
    (length l.all.items ≡ l.number)
    × ((gs : List Generation) (servers : Addresses) → AllLeft gs servers l.now → AllLeft (gs ++ idle servers ∷ []) servers l.later → AreRemembered gs servers l.all.items)
