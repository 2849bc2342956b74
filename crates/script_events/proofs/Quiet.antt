-- A client that said nothing waits for nothing.
use Rattle.std.proofs.Common.{[], arith}
use Rattle.fresh_runs.specs.Protocol.{IsStuck}
use Rattle.wire_parts.specs.declared.skip.Skip.TheVariants.{Nothing}
use Rattle.wire_parts.specs.Stream.{Stands}
use Rattle.wire_parts.proofs.Streams.{used_within}
use Rattle.wire_stream.specs.Both.{both_grammar}
use Rattle.wire_stream.specs.TextProtocol.{Whole, LongLine, OtherProtocol, memcached_text}
use Rattle.wire_stream.proofs.Shorter.{takes_some}
use Rattle.wire_stream.proofs.OtherProtocols.{some_other}

pub quiet_start : IsStuck memcached_text (Stands Nothing [])
quiet_start (Whole message) next r = let some = takes_some [] message r.0 r.1 in let all = used_within both_grammar [] message r.0 r.1 in absurd (omega (arith, some, all))
quiet_start LongLine next r = absurd (omega (arith, r.0.long))
quiet_start OtherProtocol next r = absurd (omega (arith, some_other [] r.0))
