-- The classic dialect's lines, as a grammar of requests.
use Rattle.std.specs.Prelude.{ℕ, Option, Some, None}
use Rattle.wire_parts.specs.declared.proxy_command.ProxyCommand.{ProxyCommand}
use Rattle.wire_parts.specs.Grammar.{Grammar}
use Rattle.wire_classic.specs.Order.{Order, Storage, Swapping, OfItself, classic_order_of, classic_skip_of}

-- the length of the data block after the line, where one follows
abbrev pub classic_block_len : Order → Option ℕ
classic_block_len (Storage op stored quiet) = Some stored.length
classic_block_len (Swapping stored cas quiet) = Some stored.length
classic_block_len _ = None

-- what an order asks of mcgate itself
abbrev pub classic_own_by : Order → Option ProxyCommand
classic_own_by (OfItself own) = Some own
classic_own_by _ = None

abbrev pub classic_grammar : Grammar
classic_grammar = record { Order = Order; order_of = classic_order_of; skip_of = classic_skip_of; block_len = classic_block_len; own_by = classic_own_by }
