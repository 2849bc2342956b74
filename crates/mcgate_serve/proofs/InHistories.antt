-- The last two generations of a history.
use Rattle.std.proofs.Common.{◌≡◌, ◌+◌, ◌-◌, subst, ap, ◌∙◌, ℕ, List, Some, length, get_or, arith}
use Rattle.std.proofs.lemmas.Option.{get_or_from_slice_get}
use Rattle.std.specs.List.{slice_get}
use Rattle.gate_history.specs.declared.generation.Generation.{Generation}
use Rattle.mcgate_ends.specs.FleetMembers.{StandBeside}

-- what stands at a place is what is read there
read_there : (gs : List Generation) (n i : ℕ) (x y : Generation) → n ≡ i → slice_get gs i ≡ Some y → get_or gs n x ≡ y
read_there gs n i x y e at = ap (λ (k : ℕ). get_or gs k x) e ∙ get_or_from_slice_get gs i y x at

-- the last two were looked at
pub last_beside :
    (gs : List Generation) (i : ℕ) (x y before last : Generation) → i + 2 ≡ length gs → slice_get gs i ≡ Some before → slice_get gs (i + 1) ≡ Some last
    → StandBeside (get_or gs (length gs - 2) x).config (get_or gs (length gs - 1) y).config → StandBeside before.config last.config
last_beside gs i x y before last len first next beside =
    subst (λ (z : Generation). StandBeside before.config z.config) (read_there gs (length gs - 1) (i + 1) y last (omega (arith, len)) next)
    (subst (λ (z : Generation). StandBeside z.config (get_or gs (length gs - 1) y).config) (read_there gs (length gs - 2) i x before (omega (arith, len)) first) beside)
