-- What calls of commands under way found, as it is kept: their stamps. Source: mcgate's own.
use Rattle.std.specs.Prelude.{ℕ, List, [], Option, Some, None, Vec}
use Rattle.std.specs.Ordering.{nat_cmp}
use Rattle.std.specs.BTreeMap.{get}
use Rattle.std.specs.declared.alloc.Global.{Global}
use Rattle.script_run.specs.declared.driver.found.FoundStamps.{FoundStamps}

abbrev pub stamps_in : Option (Vec (Option ℕ) Global) → List (Option ℕ)
stamps_in None = []
stamps_in (Some stamps) = stamps.items

-- what the calls of the command of this number found, in order
abbrev pub found_of : FoundStamps → ℕ → List (Option ℕ)
found_of found number = stamps_in (get nat_cmp found.stamps number)
