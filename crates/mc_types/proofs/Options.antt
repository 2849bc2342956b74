-- What may be there.
use Rattle.std.proofs.Common.{Option, Some, None, IfNone}

-- what holds anyway holds where nothing is there
pub on_none : {X : Type 0} {P : Type 0} (o : Option X) → P → IfNone o P
on_none None p = p
on_none (Some x) p = tt
