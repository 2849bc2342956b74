-- Servers that may hold anything before the run. Source: mcgate's own.
use Rattle.std.specs.Prelude.{◌↔◌, true, List, take}
use Rattle.route_tree.specs.Each.{Each}
use Rattle.route_tree.specs.Route.{Route, IsTree}
use Rattle.gate_check.specs.Sound.{AreSound}
use Rattle.gate_growth.specs.Grown.{AreSoundSince}

-- where all servers are arbitrary, each tree clears all that it and later ones take
abbrev pub ArbitraryIsToday : Type 0
ArbitraryIsToday = (trees : List Route) → Each IsTree trees → AreSoundSince (λ _. true) trees ↔ AreSound trees
