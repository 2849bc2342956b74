-- How a cache answers what the client of a connection sends. Source: memcached's protocol.txt, "Commands" and "Error strings"; what is done where memory runs out is mcgate's own.
use Rattle.std.specs.Prelude.{◌≡◌, ℕ, ℤ, nat_abs, Bool, true, false, ◌⊎◌, List, [], ◌∷◌, Option, map}
use Rattle.mc_types.specs.declared.ask.Ask.{Ask}
use Rattle.mc_types.specs.declared.ask.Op.{Op}
use Rattle.mc_types.specs.declared.ask.Op.TheVariants.{Get, Gat, Set, Add, Replace, Append, Prepend, Cas, Delete, Incr, Decr, Touch}
use Rattle.mc_types.specs.declared.answer.Answer.{Answer}
use Rattle.mc_types.specs.declared.answer.Answer.TheVariants.{ServerError}
use Rattle.mc_types.specs.declared.error_text.OwnText.TheVariants.{OutOfMemory}
use Rattle.mc_types.specs.ErrorTexts.{own_text}
use Rattle.fresh_runs.specs.Protocol.{Goes, IsStuck}
use Rattle.fresh_runs.specs.Stream.{Done, AreWhole, written_all}
use Rattle.wire_parts.specs.Stream.{Place, extended}
use Rattle.wire_stream.specs.TextProtocol.{Said, memcached_text, ReadsNext, asks_in}
use Rattle.wire_stream.specs.Version.{default_version}
use Rattle.cache_server.specs.Contents.{Contents, at_moment}
use Rattle.cache_server.specs.Table.{Applies}

-- the operations that may store an item
abbrev pub can_store : Op → Bool
can_store Get = false
can_store Gat = false
can_store Set = true
can_store Add = true
can_store Replace = true
can_store Append = true
can_store Prepend = true
can_store Cas = true
can_store Delete = false
can_store Incr = true
can_store Decr = true
can_store Touch = false

-- `SERVER_ERROR out of memory storing object`
abbrev pub out_of_memory : Answer
out_of_memory = ServerError (own_text OutOfMemory)

-- the cache answers by its table at this moment, and a new item has stamp 0
abbrev pub AnswersByTable : ℤ → Ask → Contents → Answer → Contents → Type 0
AnswersByTable moment ask old answer new = (found : Option ℕ) × Applies moment 0 ask old answer found new

-- the cache runs out of memory for what the ask would store: nothing changes but that what has expired is gone
pub record WantsMemory (moment : ℤ) (ask : Ask) (old : Contents) (answer : Answer) (new : Contents) : Type 0 where
  pub stores : can_store ask.op ≡ true
  pub answer_is : answer ≡ out_of_memory
  pub contents : new ≡ at_moment (nat_abs moment) old

-- an ask is answered so
abbrev pub AnswersAsk : ℤ → Ask → Contents → Answer → Contents → Type 0
AnswersAsk moment ask old answer new = AnswersByTable moment ask old answer new ⊎ WantsMemory moment ask old answer new

-- the first of these asks are answered so, one after another
abbrev pub AnswersEach : ℤ → List Ask → Contents → List Answer → Contents → Type 0
AnswersEach moment asks old [] new = old ≡ new
AnswersEach moment [] old (answer ∷ answers) new = ⊥
AnswersEach moment (ask ∷ asks) old (answer ∷ answers) new =
    (between : Contents) × AnswersAsk moment ask old answer between × AnswersEach moment asks between answers new

-- messages are served with these replies, one after another
abbrev pub ServesEach : ℤ → Contents → List (Done memcached_text) → Contents → Type 0
ServesEach moment old [] new = old ≡ new
ServesEach moment old (done ∷ more) new =
    (between : Contents) × AnswersEach moment (asks_in done.message) old done.replies between × ServesEach moment between more new

-- The messages from one place to another are served, each to its end, and this is the text of their replies.
pub record ServesTo (moment : ℤ) (place : Place) (old : Contents) (text : List ℕ) (next : Place) (new : Contents) : Type 0 where
  pub done : List (Done memcached_text)
  pub goes : Goes memcached_text place (map (λ (d : Done memcached_text). d.message) done) next
  pub whole : AreWhole memcached_text done
  pub served : ServesEach moment old done new
  pub text_is : text ≡ written_all memcached_text default_version done

-- A piece came: all messages that are complete then are served.
pub record ServesPiece (moment : ℤ) (place : Place) (bytes : List ℕ) (old : Contents) (text : List ℕ) (next : Place) (new : Contents) : Type 0 where
  pub serves : ServesTo moment (extended place bytes) old text next new
  pub stuck : IsStuck memcached_text next
