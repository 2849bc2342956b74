-- What the serving of a connection gives. Source: mcgate's own.
use Rattle.std.specs.Prelude.{◌≡◌, ◌≢◌, ℕ, ℤ, ◌↔◌, List, [], ◌∷◌, ◌++◌, Some}
use Rattle.mc_types.specs.declared.answer.Answer.{Answer}
use Rattle.fresh_runs.specs.Protocol.{IsStuck}
use Rattle.fresh_runs.specs.Stream.{Done}
use Rattle.wire_parts.specs.declared.proxy_command.ProxyCommand.TheVariants.{Quit}
use Rattle.wire_stream.specs.Both.{own_by}
use Rattle.wire_parts.specs.Message.{Served, Refusal}
use Rattle.wire_parts.specs.Stream.{Place, Closed}
use Rattle.wire_stream.specs.TextProtocol.{Said, Whole, LongLine, OtherProtocol, ReadsNext, memcached_text}
use Rattle.cache_server.specs.Contents.{Contents}
use Rattle.cache_tcp.specs.ConnectionServing.{out_of_memory, ServesTo, ServesPiece}
use Rattle.cache_tcp.specs.Steps.{Spot, ServedStep, at_front, Runs, text_of_steps}

-- what comes in two pieces at one moment is served as in one
abbrev pub PiecesAreOne : Type 0
PiecesAreOne =
    (moment : ℤ) (place between next : Place) (a b : List ℕ) (old middle new : Contents) (s t : List ℕ)
    → ServesPiece moment place a old s between middle → ServesPiece moment between b middle t next new
    → ServesPiece moment place (a ++ b) old (s ++ t) next new

-- `quit`, a line that is too long, or what is of another protocol
abbrev pub EndsStream : Said → Type 0
EndsStream (Whole (Served order block)) = own_by order ≡ Some Quit
EndsStream (Whole (Refusal why skip)) = ⊥
EndsStream LongLine = Unit {0}
EndsStream OtherProtocol = Unit {0}

-- a stream is closed by these messages and by no other
abbrev pub ClosesAfterLast : Type 0
ClosesAfterLast = (place next : Place) (said : Said) → ReadsNext place said next → (next ≡ Closed) ↔ EndsStream said

-- after the end nothing is served, and nothing is given
abbrev pub NothingAfterEnd : Type 0
NothingAfterEnd =
    (moment : ℤ) (next : Place) (bytes text : List ℕ) (old new : Contents)
    → ServesPiece moment Closed bytes old text next new → (text ≡ []) × (next ≡ Closed) × (new ≡ old)

-- none of these replies says that memory ran out
abbrev pub NoneWants : List Answer → Type 0
NoneWants [] = Unit {0}
NoneWants (reply ∷ replies) = (reply ≢ out_of_memory) × NoneWants replies

-- none of the replies to these messages says that memory ran out
abbrev pub AllHadMemory : List (Done memcached_text) → Type 0
AllHadMemory [] = Unit {0}
AllHadMemory (done ∷ more) = NoneWants done.replies × AllHadMemory more

-- where memory suffices, there is one text that may be given, one place after it, and one state of the cache
abbrev pub FeedIsDetermined : Type 0
FeedIsDetermined =
    (moment : ℤ) (place p q : Place) (bytes s t : List ℕ) (old c d : Contents)
    (a : ServesPiece moment place bytes old s p c) (b : ServesPiece moment place bytes old t q d)
    → AllHadMemory a.serves.done → AllHadMemory b.serves.done
    → (s ≡ t) × (p ≡ q) × (c ≡ d)

-- steps from the front of one message to that of another serve all messages between, each whole
abbrev pub StepsAreMessages : Type 0
StepsAreMessages =
    (moment : ℤ) (place next : Place) (old new : Contents) (stages : List ServedStep)
    → Runs moment (at_front place) old stages (at_front next) new → ServesTo moment place old (text_of_steps stages) next new

-- what is answered in two goes, with nothing changed between, is answered as in one: the messages are served whole, and the texts of both, joined, are that of all
abbrev pub GoesOnAsAtOnce : Type 0
GoesOnAsAtOnce =
    (moment : ℤ) (place next : Place) (stop : Spot) (old between new : Contents) (s t : List ServedStep)
    → Runs moment (at_front place) old s stop between → Runs moment stop between t (at_front next) new
    → ServesTo moment place old (text_of_steps s ++ text_of_steps t) next new
