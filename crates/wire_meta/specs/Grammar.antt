-- The meta dialect's lines, as a grammar of requests.
use Rattle.std.specs.Prelude.{ℕ, Option, Some, None}
use Rattle.wire_parts.specs.declared.proxy_command.ProxyCommand.{ProxyCommand}
use Rattle.wire_parts.specs.Grammar.{Grammar}
use Rattle.wire_meta.specs.Order.{MetaOrder, Asking, OfItself, meta_order_of, meta_skip_of}

-- the length of the data block after the line, where one follows
abbrev pub meta_block_len : MetaOrder → Option ℕ
meta_block_len (Asking kind key n flags) = n
meta_block_len (OfItself own) = None

-- what an order asks of mcgate itself
abbrev pub meta_own_by : MetaOrder → Option ProxyCommand
meta_own_by (Asking kind key n flags) = None
meta_own_by (OfItself own) = Some own

abbrev pub meta_grammar : Grammar
meta_grammar = record { Order = MetaOrder; order_of = meta_order_of; skip_of = meta_skip_of; block_len = meta_block_len; own_by = meta_own_by }
