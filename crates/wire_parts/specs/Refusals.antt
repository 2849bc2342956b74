-- What is answered to a line that is refused. Source: memcached's protocol.txt, "Error strings"; "bad data chunk" and "object too large for cache" are memcached's texts, the others mcgate's own.
use Rattle.std.specs.Prelude.{ℕ, List, codes}
use Rattle.wire_parts.specs.declared.refusal.RefusalReason.{RefusalReason}
use Rattle.wire_parts.specs.declared.refusal.RefusalReason.TheVariants.{Unknown, BadKey, BadNumber, FlagNotServed, FlagTwice, BadToken, TooLarge, BadChunk}

-- the line, without its end
abbrev pub refusal_line : RefusalReason → List ℕ
refusal_line Unknown = codes "ERROR"
refusal_line BadKey = codes "CLIENT_ERROR bad key"
refusal_line BadNumber = codes "CLIENT_ERROR bad number"
refusal_line FlagNotServed = codes "CLIENT_ERROR flag not served"
refusal_line FlagTwice = codes "CLIENT_ERROR flag twice"
refusal_line BadToken = codes "CLIENT_ERROR bad token"
refusal_line TooLarge = codes "SERVER_ERROR object too large for cache"
refusal_line BadChunk = codes "CLIENT_ERROR bad data chunk"
