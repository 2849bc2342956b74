-- What a cache holds of each key before and after a call, as the definitions of items and calls say it. Source: mcgate's own.
use Rattle.std.specs.Prelude.{◌≡◌, ℕ, ◌-◌, List, [], ◌∷◌, ◌++◌, drop, filter, Option, Some, None, option_map, if◌then◌else◌}
use Rattle.std.specs.Map.{keys_of}
use Rattle.mc_types.specs.Items.{Item, after_call}
use Rattle.mc_types.specs.Fits.{Fits}
use Rattle.mc_types.specs.Agree.{AnswerAgrees}
use Rattle.mc_types.specs.declared.ask.Ask.{Ask}
use Rattle.mc_types.specs.declared.answer.Answer.{Answer}
use Rattle.cache_server.specs.declared.item.CacheItem.{CacheItem}
use Rattle.cache_server.specs.declared.item.Entry.{Entry}
use Rattle.cache_server.specs.declared.decision.Change.{Change}
use Rattle.cache_server.specs.declared.decision.Change.TheVariants.{Leaves, Removes, Renews, Stores}
use Rattle.cache_server.specs.Contents.{Contents, Key, Entries, same_key, entry_held, is_expired, at_moment, opening}
use Rattle.cache_server.specs.Table.{decided_in}

-- the item without its expiry and cas number
abbrev pub item_of : CacheItem → Item
item_of item = record { content = item.body; flags = item.flags; stamp = item.stamp }

abbrev pub holds : Contents → Key → Option Item
holds c key = option_map (λ (entry : Entry). item_of entry.item) (entry_held c key)

-- what is held when these keys are lost
abbrev pub without : List Key → (Key → Option Item) → Key → Option Item
without [] h q = h q
without (key ∷ lost) h q = if same_key key q then None else without lost h q

-- the keys whose items have expired
abbrev pub expired_keys : ℕ → Entries → List Key
expired_keys now entries = keys_of (filter (is_expired now) entries)

-- the keys for which there is no room beside a new one: none, or in a full cache the least recently used
abbrev pub pushed_by_new : Contents → Option Entry → List Key
pushed_by_new c None = keys_of (drop (c.cap - 1) c.entries)
pushed_by_new c (Some entry) = []

-- the keys that a change of this key pushes out
abbrev pub pushed_out : Contents → Key → Change → List Key
pushed_out c key Leaves = []
pushed_out c key Removes = []
pushed_out c key (Renews entry) = pushed_by_new c (entry_held c key)
pushed_out c key (Stores item) = pushed_by_new c (entry_held c key)

-- the keys that are lost at a call: what has expired, and what is pushed out
abbrev pub keys_lost_by : ℕ → ℕ → Ask → Contents → List Key
keys_lost_by now stamp ask old =
    pushed_out (at_moment now old) ask.key (decided_in now stamp ask (at_moment now old)).change ++ expired_keys now old.entries

-- A server that holds this loses these keys, and then answers the call so, by an item of this stamp, and holds that.
pub record IsServerCall (stamp : ℕ) (ask : Ask) (old : Key → Option Item) (lost : List Key) (answer : Answer) (found : Option ℕ) (new : Key → Option Item) : Type 0 where
  pub fits : Fits ask answer
  pub agrees : AnswerAgrees ask answer (without lost old ask.key)
  pub found_is : found ≡ option_map (λ item. item.stamp) (without lost old ask.key)
  pub after : (q : Key) → new q ≡ (if same_key ask.key q then after_call ask stamp answer 0 (without lost old q) else without lost old q)

-- the key holds these data from the start; what they push out is lost
abbrev pub IsHold : Key → List ℕ → Contents → Contents → Type 0
IsHold key body old new =
    (q : Key) → holds new q ≡ (if same_key key q then Some (item_of (opening body)) else without (pushed_by_new old (entry_held old key)) (holds old) q)

-- these keys are lost, and no other
abbrev pub IsLoss : List Key → Contents → Contents → Type 0
IsLoss lost old new = (q : Key) → holds new q ≡ without lost (holds old) q
