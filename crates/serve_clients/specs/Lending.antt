-- What the clients end as, once the loan of one of them has ended. Source: mcgate's own.
use Rattle.std.specs.Prelude.{◌≡◌, ℕ, Option, Some, OnSome, slice_set}
use Rattle.std.specs.Borrow.{LendsSo, MutBor, Fml}
use Rattle.serve_clients.specs.declared.clients.Client.{Client}
use Rattle.serve_clients.specs.declared.clients.Clients.{Clients}
use Rattle.serve_clients.specs.contracts.clients.Client as of_one
use Rattle.serve_clients.specs.contracts.clients.Clients as of_all
use Rattle.serve_clients.specs.Marks.{AreAlike}

-- this client stands at this place, and all else is as it was
abbrev pub with_client_at : Clients → ℕ → Client → Clients
with_client_at clients id x = record clients { all = record { items = slice_set clients.all.items id (Some x) } }

-- the client of this id ends as the borrower leaves it, and all else stays; where there is none, all stays
abbrev pub LendsClient : MutBor Clients → ℕ → Option (MutBor Client) → Fml
LendsClient clients id r = LendsSo of_all.the_row of_one.the_row clients r (λ n x. OnSome r (n ≡ with_client_at clients.now id x)) (λ n. AreAlike clients.now n)
