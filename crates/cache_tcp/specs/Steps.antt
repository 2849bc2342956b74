-- How far a client was served: message by message, and within a message ask by ask. Source: mcgate's own.
use Rattle.std.specs.Prelude.{◌≡◌, ℕ, ℤ, nat_abs, ◌+◌, ◌<◌, ◌≤◌, Bool, true, false, ◌⊎◌, List, [], ◌∷◌, ◌++◌, length, drop, Option, Some, None, slice_get}
use Rattle.mc_types.specs.declared.ask.Ask.{Ask}
use Rattle.mc_types.specs.declared.answer.Answer.{Answer}
use Rattle.fresh_runs.specs.Protocol.{IsStuck}
use Rattle.wire_parts.specs.declared.skip.Skip.TheVariants.{Nothing}
use Rattle.wire_parts.specs.Stream.{Place, Stands, extended}
use Rattle.wire_stream.specs.declared.requests.request.Request.{Request}
use Rattle.wire_stream.specs.Message.{AnyMessage, message_in, used_of}
use Rattle.wire_stream.specs.Asks.{asks_of}
use Rattle.wire_stream.specs.Held.{bytes_at}
use Rattle.wire_stream.specs.TextProtocol.{Said, Whole, memcached_text, ReadsNext, asks_in, passed_text, shown_of, ends_at}
use Rattle.wire_stream.specs.Fronts.{RequestIsFront}
use Rattle.wire_stream.specs.Version.{default_version}
use Rattle.cache_server.specs.Contents.{Contents, at_moment}
use Rattle.cache_tcp.specs.ConnectionServing.{AnswersAsk}

-- where the serving of a client stands: its stream, and how many asks of the message at the front were answered
pub record Spot : Type 0 where
  pub place : Place
  pub count : ℕ

abbrev pub spot_at : Place → ℕ → Spot
spot_at place count = record { place = place; count = count }

-- no ask of the message at the front was answered
abbrev pub at_front : Place → Spot
at_front place = spot_at place 0

-- these bytes came, if there are some
abbrev pub came : Spot → List ℕ → Spot
came spot [] = spot
came spot (byte ∷ bytes) = spot_at (extended spot.place (byte ∷ bytes)) spot.count

-- asks were answered of no message but the one at the front, and another of it is next
abbrev pub IsOnWay : Spot → Type 0
IsOnWay spot = (spot.count ≡ 0) ⊎ ((said : Said) × (next : Place) × ReadsNext spot.place said next × (spot.count < length (asks_in said)))

-- where the stream stands after a reply: the message is done with it, or not
abbrev pub place_by : Bool → Place → Place → Place
place_by true place next = next
place_by false place next = place

-- how many asks of the message at the front were answered then
abbrev pub count_by : Bool → ℕ → ℕ
count_by true count = 0
count_by false count = count + 1

-- the next ask of the message at the front is answered, and this text is shown for it
pub record AnswersNext (moment : ℤ) (place : Place) (count : ℕ) (old : Contents) (text : List ℕ) (ended : Bool) (place' : Place) (new : Contents) : Type 0 where
  pub said : Said
  pub next : Place
  pub reads : ReadsNext place said next
  pub ask : Ask
  pub at : slice_get (asks_in said) count ≡ Some ask
  pub reply : Answer
  pub answered : AnswersAsk moment ask old reply new
  pub ended_is : ended ≡ ends_at said count reply
  pub text_is : text ≡ shown_of said count reply
  pub place_is : place' ≡ place_by ended place next

-- the message at the front asks no server, and is answered by this text
pub record PassesNext (place : Place) (text : List ℕ) (place' : Place) : Type 0 where
  pub said : Said
  pub reads : ReadsNext place said place'
  pub asks : asks_in said ≡ []
  pub text_is : text ≡ passed_text default_version said

-- a step answers the next ask
abbrev pub Asks : ℤ → Spot → Contents → List ℕ → Spot → Contents → Type 0
Asks moment from old text to new =
    (ended : Bool) × AnswersNext moment from.place from.count old text ended to.place new × (to.count ≡ count_by ended from.count)

-- a step answers a message that asks no server
abbrev pub StepPasses : Spot → Contents → List ℕ → Spot → Contents → Type 0
StepPasses from old text to new = (from.count ≡ 0) × (to.count ≡ 0) × (old ≡ new) × PassesNext from.place text to.place

abbrev pub SpotStep : ℤ → Spot → Contents → List ℕ → Spot → Contents → Type 0
SpotStep moment from old text to new = Asks moment from old text to new ⊎ StepPasses from old text to new

-- what a step gave, and where it led
pub record ServedStep : Type 0 where
  pub text : List ℕ
  pub spot : Spot
  pub contents : Contents

-- these steps lead from one spot to the other, each with what the cache holds then
abbrev pub Runs : ℤ → Spot → Contents → List ServedStep → Spot → Contents → Type 0
Runs moment from old [] to new = (from ≡ to) × (old ≡ new)
Runs moment from old (stage ∷ stages) to new =
    SpotStep moment from old stage.text stage.spot stage.contents × Runs moment stage.spot stage.contents stages to new

-- what steps gave
abbrev pub text_of_steps : List ServedStep → List ℕ
text_of_steps [] = []
text_of_steps (stage ∷ stages) = stage.text ++ text_of_steps stages

-- steps were made, and their text stands after what is to be sent
pub record RunsOn (moment : ℤ) (from : Spot) (old : Contents) (unsent : List ℕ) (to : Spot) (new : Contents) (unsent' : List ℕ) : Type 0 where
  pub stages : List ServedStep
  pub runs : Runs moment from old stages to new
  pub unsent_is : unsent' ≡ unsent ++ text_of_steps stages

-- running out of memory at an ask: what has expired is gone, or else it was answered, and the reply not shown
abbrev pub StopsAtAsk : ℤ → Ask → Contents → Contents → Type 0
StopsAtAsk moment ask old new = ((reply : Answer) × AnswersAsk moment ask old reply new) ⊎ (new ≡ at_moment (nat_abs moment) old)

-- running out of memory at the next step, or before it
abbrev pub StopsNext : ℤ → Place → ℕ → Contents → Contents → Type 0
StopsNext moment place count old new =
    (new ≡ old) ⊎ ((said : Said) × (next : Place) × ReadsNext place said next × ((ask : Ask) × (slice_get (asks_in said) count ≡ Some ask) × StopsAtAsk moment ask old new))

-- steps were made, and memory was refused at the next one
pub record StopsForMemory (moment : ℤ) (from : Spot) (old new : Contents) : Type 0 where
  pub stages : List ServedStep
  pub spot : Spot
  pub left : Contents
  pub runs : Runs moment from old stages spot left
  pub stops : StopsNext moment spot.place spot.count left new

-- what is shown for one ask, or for one message that asks no server
abbrev pub IsOneText : List ℕ → Type 0
IsOneText text = ((said : Said) × (count : ℕ) × (reply : Answer) × (text ≡ shown_of said count reply)) ⊎ ((said : Said) × (text ≡ passed_text default_version said))

-- So many bytes at most are to be sent, and after them what is left of the one text that passes that.
pub record IsWithin (most : ℕ) (unsent : List ℕ) : Type 0 where
  pub front : List ℕ
  pub last : List ℕ
  pub gone : List ℕ
  pub unsent_is : unsent ≡ front ++ last
  pub front_len : length front ≤ most
  pub one : IsOneText (gone ++ last)

-- so much is to be sent that it is a backlog, or no whole message is there
abbrev pub IsAnsweredSoFar : ℕ → Place → List ℕ → Type 0
IsAnsweredSoFar most place unsent = (most ≤ length unsent) ⊎ IsStuck memcached_text place

-- the next ask was answered, and its text stands after what is to be sent
pub record ServesNext (moment : ℤ) (place : Place) (count : ℕ) (old : Contents) (unsent : List ℕ) (ended : Bool) (place' : Place) (new : Contents) (unsent' : List ℕ) : Type 0 where
  pub text : List ℕ
  pub answers : AnswersNext moment place count old text ended place' new
  pub unsent_is : unsent' ≡ unsent ++ text

-- a message that asks no server was answered, and its text stands after what is to be sent
pub record PassesOn (place : Place) (unsent : List ℕ) (place' : Place) (unsent' : List ℕ) : Type 0 where
  pub text : List ℕ
  pub passes : PassesNext place text place'
  pub unsent_is : unsent' ≡ unsent ++ text

-- the message that a request is
abbrev pub message_at : Place → Request → AnyMessage
message_at place request = message_in (bytes_at place) request

-- the i-th ask of the request at the front
pub record IsAskOf (place : Place) (request : Request) (i : ℕ) (ask : Ask) : Type 0 where
  pub front : RequestIsFront place request
  pub at : slice_get (asks_of (message_at place request)) i ≡ Some ask
  pub there : i < length (asks_of (message_at place request))

-- the request stands at the front, and its i-th ask is next
pub record IsKeyOf (place : Place) (request : Request) (i : ℕ) : Type 0 where
  pub front : RequestIsFront place request
  pub there : i < length (asks_of (message_at place request))

-- where the asks of a request that were answered end: all were, or this one is next
abbrev pub asks_ended : Option ℕ → ℕ
asks_ended None = 0
asks_ended (Some i) = i

-- the request was done, or it stands where it stood, and so much is to be sent that it is a backlog
abbrev pub HasStopped : ℕ → Option ℕ → Place → Place → List ℕ → Type 0
HasStopped most None old new unsent = length (bytes_at new) < length (bytes_at old)
HasStopped most (Some i) old new unsent = (most ≤ length unsent) × IsOnWay (spot_at new i)

-- the reply to the i-th ask of the request at the front was shown: whether the request is done with it
pub record ShowsNextReply (place : Place) (request : Request) (i : ℕ) (ask : Ask) (reply : Answer) (unsent : List ℕ) (ended : Bool) (place' : Place) (unsent' : List ℕ) : Type 0 where
  pub ended_is : ended ≡ ends_at (Whole (message_at place request)) i reply
  pub place_is : place' ≡ place_by ended place (Stands Nothing (drop (used_of request) (bytes_at place)))
  pub unsent_is : unsent' ≡ unsent ++ shown_of (Whole (message_at place request)) i reply
