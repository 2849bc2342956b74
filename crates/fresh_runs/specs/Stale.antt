-- How many commands show an item that is as old as an earlier acknowledged delete of its key, by numbers: for runs in which each command has its key alone. Source: mcgate's own.
use Rattle.std.specs.Prelude.{◌≡◌, ◌↔◌, ◌≤◌, ℕ, ◌+◌, Bool, true, false, IsTrue, List, [], ◌∷◌, Option, Some, None, if◌then◌else◌, bytes_eq, nat_le, ◌&&◌, ◌||◌}
use Rattle.mc_types.specs.declared.ask.Op.{Op}
use Rattle.mc_types.specs.declared.ask.Op.TheVariants.{Delete}
use Rattle.mc_types.specs.declared.ask.Ask.{Ask}
use Rattle.mc_types.specs.declared.answer.Answer.{Answer}
use Rattle.mc_types.specs.Acknowledged.{says_gone}
use Rattle.mc_types.specs.Shows.{shows}
use Rattle.mc_types.specs.Items.{Item}
use Rattle.fresh_runs.specs.Calls.{Call}
use Rattle.fresh_runs.specs.Run.{Event, Begins, Calls, Replies, Breaks, Turns, Restarts, under_way, item_at, Run, IsAcknowledged, IsFreshByNumber}

abbrev pub is_delete_op : Op → Bool
is_delete_op Delete = true
is_delete_op _ = false

-- 1 where the item is as old as this delete
abbrev pub stale_since : Option ℕ → Option Item → ℕ
stale_since last None = 0
stale_since None (Some item) = 0
stale_since (Some n) (Some item) = if nat_le item.stamp n then 1 else 0

-- the reply acknowledges the delete under way
abbrev pub is_acknowledged : Option Ask → Answer → Bool
is_acknowledged None reply = false
is_acknowledged (Some ask) reply = is_delete_op ask.op && says_gone reply

-- some acknowledged delete of the key has a number that isn't below the stamp
abbrev pub is_outlived : List Event → List ℕ → ℕ → Bool
is_outlived [] key stamp = false
is_outlived (Replies number k reply from ∷ past) key stamp =
    (bytes_eq k key && is_acknowledged (under_way past number) reply && nat_le stamp number) || is_outlived past key stamp
is_outlived (Begins number ask ∷ past) key stamp = is_outlived past key stamp
is_outlived (Calls number server ask origin end ∷ past) key stamp = is_outlived past key stamp
is_outlived (Breaks number ∷ past) key stamp = is_outlived past key stamp
is_outlived (Turns server k turned ∷ past) key stamp = is_outlived past key stamp
is_outlived (Restarts server ∷ past) key stamp = is_outlived past key stamp

-- 1 where the item is as old as a delete
abbrev pub stale_item : List Event → List ℕ → Option Item → ℕ
stale_item past key None = 0
stale_item past key (Some item) = if is_outlived past key item.stamp then 1 else 0

-- the number of the last acknowledged delete of the key
abbrev pub last_gone : List Event → List ℕ → Option ℕ
last_gone [] key = None
last_gone (Replies number k reply from ∷ past) key = if bytes_eq k key && is_acknowledged (under_way past number) reply then Some number else last_gone past key
last_gone (Begins number ask ∷ past) key = last_gone past key
last_gone (Calls number server ask origin end ∷ past) key = last_gone past key
last_gone (Breaks number ∷ past) key = last_gone past key
last_gone (Turns server k turned ∷ past) key = last_gone past key
last_gone (Restarts server ∷ past) key = last_gone past key

module _ (opening : ℕ → List ℕ → Option Item) where
  -- what the call found whose item the reply shows
  abbrev pub shown_item : List Event → ℕ → Option ℕ → Option Item
  shown_item past number None = None
  shown_item past number (Some i) = item_at opening past number i

  -- the commands that show an item whose stamp is at most the number of an earlier acknowledged delete of the key
  abbrev pub stale_in : List Event → ℕ
  stale_in [] = 0
  stale_in (Replies number key reply from ∷ past) = stale_in past + stale_item past key (shown_item past number from)
  stale_in (Begins number ask ∷ past) = stale_in past
  stale_in (Calls number server ask origin end ∷ past) = stale_in past
  stale_in (Breaks number ∷ past) = stale_in past
  stale_in (Turns server k turned ∷ past) = stale_in past
  stale_in (Restarts server ∷ past) = stale_in past

  -- the same by the last acknowledged delete alone, as a driver counts
  abbrev pub tally_of : List Event → ℕ
  tally_of [] = 0
  tally_of (Replies number key reply from ∷ past) = tally_of past + stale_since (last_gone past key) (shown_item past number from)
  tally_of (Begins number ask ∷ past) = tally_of past
  tally_of (Calls number server ask origin end ∷ past) = tally_of past
  tally_of (Breaks number ∷ past) = tally_of past
  tally_of (Turns server k turned ∷ past) = tally_of past
  tally_of (Restarts server ∷ past) = tally_of past

-- where each command has its key alone: the last acknowledged delete of a key is enough to count with, no command is stale where deletes clear what later commands take, and the search finds one exactly where there is one
pub record CountsStale (words : ℕ → Ask → List Call → Answer → Option ℕ → Type 0) (Bars : ℕ → Ask → ℕ → Ask → Type 0) (opening : ℕ → List ℕ → Option Item) : Type 0 where
  pub last : (events : List Event) → Run words Bars opening events → stale_in opening events ≡ tally_of opening events
  pub none : (events : List Event) → Run words Bars opening events → IsFreshByNumber opening events → stale_in opening events ≡ 0
  pub exact : (events : List Event) → Run words Bars opening events → (key : List ℕ) (stamp : ℕ) → IsTrue (is_outlived events key stamp) ↔ ((n : ℕ) × (delete : Ask) × IsAcknowledged events n delete × (delete.key ≡ key) × (stamp ≤ n))
