-- The classic requests, of which the laws hold, and that of a walk over their asks.
use Rattle.std.specs.Prelude.{ℕ, List, ◌++◌}
use Rattle.wire_parts.specs.Requests.{Requests}
use Rattle.wire_classic.specs.Grammar.{classic_grammar}
use Rattle.wire_classic.specs.declared.command.ClassicRequest.{ClassicRequest}
use Rattle.wire_classic.specs.Message.{IsClassicReadFrom, classic_message_in}
use Rattle.wire_classic.specs.declared.asking.Asks.{Asks}
use Rattle.wire_classic.specs.Asks.{classic_asks_of, classic_quiet_of, IsClassicAsk, IsClassicWalk}
use Rattle.wire_classic.specs.Spelling.{classic_spelling, classic_message_of}

abbrev pub classic_requests : Requests
classic_requests =
    record {
      grammar = classic_grammar;
      Request = ClassicRequest;
      IsRead = IsClassicReadFrom;
      message_in = classic_message_in;
      asks_of = classic_asks_of;
      quiet_of = classic_quiet_of;
      IsAsked = IsClassicAsk;
      spelling_of = classic_spelling;
      message_of = classic_message_of;
    }

-- a walk over the asks of a request goes on when more has come
abbrev pub ClassicWalkStill : Type 0
ClassicWalkStill = (bytes more : List ℕ) (walk : Asks) → IsClassicWalk bytes walk → IsClassicWalk (bytes ++ more) walk
