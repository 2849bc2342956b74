-- What a call is to the cache of its server, exactly, and how it ends where it is named to fail. Source: mcgate's own.
use Rattle.std.specs.Prelude.{◌≡◌, ℕ, ℤ, nat_abs, List, [], ◌⊎◌, Option, Some, None, slice_get, slice_set}
use Rattle.mc_types.specs.declared.ask.Ask.{Ask}
use Rattle.mc_types.specs.declared.answer.Answer.{Answer}
use Rattle.mc_types.specs.declared.call.Outcome.TheVariants.{Answered, Failed}
use Rattle.fresh_runs.specs.Calls.{End, Read, Unread, Never, outcome_of}
use Rattle.fresh_runs.specs.Protocol.{silence}
use Rattle.fresh_runs.specs.Log.{Manner, Cut}
use Rattle.fresh_runs.specs.ScriptLog as script
use Rattle.cache_server.specs.Contents.{Contents, at_moment}
use Rattle.cache_server.specs.Table.{Applies}
use Rattle.cache_server.specs.Held.{holds, IsServerCall, keys_lost_by}
use Rattle.wire_answers.specs.Spelling.{answer_spelling}
use Rattle.script_events.specs.Caches.{changed_at}
use Rattle.script_events.specs.declared.servers.event.Made.{Made}

-- a call ends as it is named by a script, whatever else the script is of; the text of an answer is its spelling
abbrev pub EndsByScript : Ask → Option Manner → End → Type 0
EndsByScript ask named end =
    script.EndsAs {P = silence} {T = ℕ} 0 (λ tree number ask calls reply from. ⊥) (λ number ask other client. ⊥) (λ server key. None) [] 1 1 answer_spelling (λ log server key. ⊥) ask named end

-- the cache of the server answers so by the table of that moment, with the stamp of the item that it found, and loses only what has expired and what the call pushes out; the other caches stay
pub record AppliesAt (stamp : ℕ) (moment : ℤ) (old : List Contents) (server : ℕ) (ask : Ask) (answer : Answer) (found : Option ℕ) (new : List Contents) : Type 0 where
  pub cache : Contents
  pub after : Contents
  pub is_there : slice_get old server ≡ Some cache
  pub applies : Applies moment stamp ask cache answer found after
  pub call : IsServerCall stamp ask (holds cache) (keys_lost_by (nat_abs moment) stamp ask cache) answer found (holds after)
  pub caches_are : new ≡ slice_set old server after

-- what a call of this end is to the caches: applied, with its answer read or not, or never applied; only an answer that is read tells what was found
abbrev pub CallEndsAs : ℕ → ℤ → List Contents → ℕ → Ask → End → Option ℕ → List Contents → Type 0
CallEndsAs stamp moment old server ask (Read s answer spaces) found new =
    (s ≡ stamp) × (spaces ≡ 0) × AppliesAt stamp moment old server ask answer found new
CallEndsAs stamp moment old server ask (Unread s answer spaces) found new =
    (s ≡ stamp) × (spaces ≡ 0) × (found ≡ None) × (there : Option ℕ) × AppliesAt stamp moment old server ask answer there new
CallEndsAs stamp moment old server ask Never found new = (found ≡ None) × (new ≡ old)

-- a call that is named so, and what came of it
pub record CallIsMade (named : Option Manner) (stamp : ℕ) (moment : ℤ) (old : List Contents) (server : ℕ) (ask : Ask) (made : Made) (new : List Contents) : Type 0 where
  pub end : End
  pub as_named : EndsByScript ask named end
  pub outcome_is : made.outcome ≡ outcome_of end
  pub ends : CallEndsAs stamp moment old server ask end made.stamp new

-- a call that found no memory: what has expired at its server is gone, and nothing else; or it was applied, and its answer was to be cut
abbrev pub IsRefused : Option Manner → ℕ → ℤ → List Contents → ℕ → Ask → List Contents → Type 0
IsRefused named stamp moment old server ask new =
    (new ≡ changed_at server (at_moment (nat_abs moment)) old)
    ⊎ ((count : ℕ) × (named ≡ Some (Cut count)) × (answer : Answer) × (found : Option ℕ) × AppliesAt stamp moment old server ask answer found new)

-- what came of a call whose answer was read, or wasn't
abbrev pub made_of : Option ℕ → Option Answer → Made
made_of stamp (Some answer) = record { outcome = Answered answer; stamp = stamp }
made_of stamp None = record { outcome = Failed; stamp = None }
