-- The meta requests, of which the laws hold.
use Rattle.wire_parts.specs.Requests.{Requests}
use Rattle.wire_meta.specs.Grammar.{meta_grammar}
use Rattle.wire_meta.specs.declared.command.MetaRequest.{MetaRequest}
use Rattle.wire_meta.specs.Message.{IsMetaReadFrom, meta_message_in}
use Rattle.wire_meta.specs.Asks.{meta_asks_of, meta_quiet_of, IsMetaAsk}
use Rattle.wire_meta.specs.Spelling.{meta_ask_spelling, meta_message_of}

abbrev pub meta_requests : Requests
meta_requests =
    record {
      grammar = meta_grammar;
      Request = MetaRequest;
      IsRead = IsMetaReadFrom;
      message_in = meta_message_in;
      asks_of = meta_asks_of;
      quiet_of = meta_quiet_of;
      IsAsked = IsMetaAsk;
      spelling_of = meta_ask_spelling;
      message_of = meta_message_of;
    }
