-- What is seen of the places: who stands there.
use Rattle.std.specs.Prelude.{List, Option}
use Rattle.serve_clients.specs.declared.clients.Client.{Client}

pub record Row : Type 0 where
  pub items : List (Option Client)
