-- Where a server's name leads that was looked up again, and whether calls go there. Source: mcgate's own.
use Rattle.std.specs.Prelude.{Bool, true, false}
use Rattle.gate_growth.specs.declared.ledger.page.Beginning.{Beginning}
use Rattle.gate_growth.specs.declared.ledger.page.Beginning.TheVariants.{Any, Own}
use Rattle.serve_wire.specs.declared.outcomes.Lead.{Lead}
use Rattle.serve_wire.specs.declared.outcomes.Lead.TheVariants.{Same, First, Other}

-- to the same machine there is nothing to follow, and where none was known nothing was called; another one is followed where new servers hold nothing, or nothing is promised, and no other proxy calls the one before
abbrev pub follows : (added : Beginning) → (any fleet : Bool) → Lead → Bool
follows added any fleet Same = false
follows added any fleet First = true
follows added any true Other = false
follows Own any false Other = true
follows Any any false Other = any
