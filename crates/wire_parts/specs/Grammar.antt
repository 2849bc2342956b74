-- A dialect of requests: what the words of a line ask. Source: mcgate's own.
use Rattle.std.specs.Prelude.{ℕ, List, Option, Result}
use Rattle.wire_parts.specs.declared.refusal.RefusalReason.{RefusalReason}
use Rattle.wire_parts.specs.declared.skip.Skip.{Skip}
use Rattle.wire_parts.specs.declared.proxy_command.ProxyCommand.{ProxyCommand}
use Rattle.wire_parts.specs.Tests.{Word}

pub record Grammar : Type 1 where
  -- what a request line asks
  pub Order : Type 0
  -- what the words of a line ask, or the first test that they fail
  pub order_of : List Word → Result Order RefusalReason
  -- what is passed over after the line, where it is refused
  pub skip_of : List Word → Skip
  -- the length of the data block after the line, where one follows
  pub block_len : Order → Option ℕ
  -- what is asked of mcgate itself
  pub own_by : Order → Option ProxyCommand
