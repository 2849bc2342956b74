-- The requests of a dialect, or of both: what was read, what it asks, and how an ask is spelled. Source: mcgate's own.
use Rattle.std.specs.Prelude.{◌≡◌, ℕ, Bool, false, List, [], ◌∷◌, ◌++◌, length}
use Rattle.std.specs.List.{AllByRecursion}
use Rattle.mc_types.specs.declared.ask.Ask.{Ask}
use Rattle.wire_parts.specs.Grammar.{Grammar}
use Rattle.wire_parts.specs.Message.{Message, BeginsMessage}
use Rattle.wire_parts.specs.Laws.{BeginsStill, OneMessage, TooLongBeginsNothing, StaysRead, GoesFurther, OneSplitting}

pub record Requests : Type 1 where
  pub grammar : Grammar
  -- a request, by the places of its words
  pub Request : Type 0
  -- the bytes begin with it
  pub IsRead : List ℕ → Request → Type 0
  -- the message that it is in these bytes
  pub message_in : List ℕ → Request → Message grammar.Order
  -- the asks of a message, one for each key
  pub asks_of : Message grammar.Order → List Ask
  -- whether it wants no answer
  pub quiet_of : Message grammar.Order → Bool
  -- a well formed ask
  pub IsAsked : Ask → Type 0
  -- the one spelling of an ask, and the message that it is
  pub spelling_of : Ask → List ℕ
  pub message_of : Ask → Message grammar.Order

module _ (R : Requests) where
  -- a request that was read is the same request when more has come
  abbrev pub ReadStill : Type 0
  ReadStill = (bytes more : List ℕ) (request : R.Request) → R.IsRead bytes request → R.IsRead (bytes ++ more) request × (R.message_in (bytes ++ more) request ≡ R.message_in bytes request)

  -- each ask of a message that was read is well formed
  abbrev pub AsksAreWellFormed : Type 0
  AsksAreWellFormed = (bytes : List ℕ) (message : Message R.grammar.Order) (used : ℕ) → BeginsMessage R.grammar bytes message used → AllByRecursion R.IsAsked (R.asks_of message)

  -- bytes that begin with the spelling of an ask begin with its message, whatever follows
  abbrev pub AsksAreReadBack : Type 0
  AsksAreReadBack = (ask : Ask) (more : List ℕ) → R.IsAsked ask → BeginsMessage R.grammar (R.spelling_of ask ++ more) (R.message_of ask) (length (R.spelling_of ask))

  -- the message of an ask is this ask alone, and wants an answer
  abbrev pub MessagesAreOneAsk : Type 0
  MessagesAreOneAsk = (ask : Ask) → R.IsAsked ask → (R.asks_of (R.message_of ask) ≡ ask ∷ []) × (R.quiet_of (R.message_of ask) ≡ false)

  -- the laws of requests, and of the streams of their messages
  pub record HasLaws : Type 0 where
    pub begins_still : BeginsStill R.grammar
    pub one_message : OneMessage R.grammar
    pub too_long_begins_nothing : TooLongBeginsNothing R.grammar
    pub goes_on : StaysRead R.grammar
    pub goes_further : GoesFurther R.grammar
    pub one_splitting : OneSplitting R.grammar
    pub read_still : ReadStill
    pub asks_are_well_formed : AsksAreWellFormed
    pub asks_are_read_back : AsksAreReadBack
    pub messages_are_one_ask : MessagesAreOneAsk
