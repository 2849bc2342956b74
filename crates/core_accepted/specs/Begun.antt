-- How servers began of which nothing is known. Source: mcgate's own.
use Rattle.gate_growth.specs.declared.ledger.page.Beginning.TheVariants.{Any}
use Rattle.core_accepted.specs.declared.beginnings.Beginnings.{Beginnings}

-- each server may have held anything
abbrev pub any_begun : Beginnings
any_begun = record { opened = Any; added = Any }
