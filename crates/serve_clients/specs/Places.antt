-- What the places end as, once the loan of one of them has ended.
use Rattle.std.specs.Prelude.{ℕ, Option, slice_set}
use Rattle.std.specs.Borrow.{LendsIf, MutBor, Fml}
use Rattle.std.specs.contracts.option.Option as option
use Rattle.serve_clients.specs.Row.{Row}
use Rattle.serve_clients.specs.declared.clients.Client.{Client}
use Rattle.serve_clients.specs.contracts.clients.Client as of_one
use Rattle.serve_clients.specs.contracts.places.Places as of_all

-- this stands at this place, and all else is as it was
abbrev pub with_place : Row → ℕ → Option Client → Row
with_place row id x = record { items = slice_set row.items id x }

-- the place of this id ends as the borrower leaves it, and all else stays; where there is none, all stays
abbrev pub LendsPlace : MutBor Row → ℕ → Option (MutBor (Option Client)) → Fml
LendsPlace places id r = LendsIf of_all.the_row (option.the_row of_one.the_row) places r (with_place places.now id) places.now
