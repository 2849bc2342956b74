-- The requests of both dialects, of which the laws hold, and that of a walk over their asks.
use Rattle.std.specs.Prelude.{ℕ, List, ◌++◌}
use Rattle.wire_parts.specs.Requests.{Requests}
use Rattle.wire_stream.specs.declared.requests.request.Request.{Request}
use Rattle.wire_stream.specs.declared.requests.request.Asks.{Asks}
use Rattle.wire_stream.specs.Both.{both_grammar}
use Rattle.wire_stream.specs.Message.{IsReadFrom, message_in}
use Rattle.wire_stream.specs.Asks.{asks_of, quiet_of, IsClientAsk, IsWalk}
use Rattle.wire_stream.specs.Spelling.{spelling_of, message_of}

abbrev pub both_requests : Requests
both_requests =
    record {
      grammar = both_grammar;
      Request = Request;
      IsRead = IsReadFrom;
      message_in = message_in;
      asks_of = asks_of;
      quiet_of = quiet_of;
      IsAsked = IsClientAsk;
      spelling_of = spelling_of;
      message_of = message_of;
    }

-- a walk over the asks of a request goes on when more has come
abbrev pub WalkStill : Type 0
WalkStill = (bytes more : List ℕ) (walk : Asks) → IsWalk bytes walk → IsWalk (bytes ++ more) walk
