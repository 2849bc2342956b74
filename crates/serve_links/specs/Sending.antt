-- What of an ask is data: a classic store's line stands before them, and the line's end after them. Source: memcached's protocol.txt, "Storage commands".
use Rattle.std.specs.Prelude.{Bool, false}
use Rattle.mc_types.specs.declared.ask.Op.{Op}
use Rattle.mc_types.specs.declared.ask.Ask.{Ask}
use Rattle.mc_types.specs.declared.ask.Dialect.{Dialect}
use Rattle.mc_types.specs.declared.ask.Dialect.TheVariants.{Classic, Meta}
use Rattle.wire_classic.specs.Spelling.{stores_data}

-- whether an operation in this dialect is a classic store
abbrev pub stores_in : Dialect → Op → Bool
stores_in Classic op = stores_data op
stores_in Meta op = false

-- a store in the classic dialect
abbrev pub is_classic_store : Ask → Bool
is_classic_store ask = stores_in ask.dialect ask.op
