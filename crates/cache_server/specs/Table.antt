-- What each operation answers and changes. Source: memcached's protocol.txt, "Storage commands" to "Touch" and "Meta Commands", and its limit of 1 MiB for an item; the order of the tests is mcgate's own.
use Rattle.std.specs.Prelude.{◌≡◌, ℕ, ◌++◌, ℤ, nat_abs, Bool, true, false, not, ◌&&◌, List, Option, Some, None, option_map, decimal, length, nat_lt, ◌==◌, if◌then◌else◌}
use Rattle.std.specs.Bool.{then_some}
use Rattle.mc_types.specs.Asks.{data_limit}
use Rattle.mc_types.specs.Items.{number_made}
use Rattle.mc_types.specs.ErrorTexts.{own_text}
use Rattle.mc_types.specs.declared.error_text.OwnText.TheVariants as texts
use Rattle.mc_types.specs.declared.ask.Ask.{Ask}
use Rattle.mc_types.specs.declared.ask.Op.{Op}
use Rattle.mc_types.specs.declared.ask.Op.TheVariants.{Get, Gat, Set, Add, Replace, Append, Prepend, Cas, Delete, Incr, Decr, Touch}
use Rattle.mc_types.specs.declared.ask.Dialect.{Dialect}
use Rattle.mc_types.specs.declared.ask.Dialect.TheVariants.{Classic, Meta}
use Rattle.mc_types.specs.declared.token.Token.{Token}
use Rattle.mc_types.specs.Tokens.{wants, LetterC, LetterF, LetterS, LetterT, LetterV}
use Rattle.mc_types.specs.declared.answer.Code.{Code}
use Rattle.mc_types.specs.declared.answer.Code.TheVariants as codes
use Rattle.mc_types.specs.declared.answer.Fields.{Fields}
use Rattle.mc_types.specs.declared.answer.Answer.{Answer}
use Rattle.mc_types.specs.declared.answer.Answer.TheVariants as answers
use Rattle.cache_server.specs.declared.item.CacheItem.{CacheItem}
use Rattle.cache_server.specs.declared.item.Entry.{Entry}
use Rattle.cache_server.specs.declared.decision.Verdict.{Verdict}
use Rattle.cache_server.specs.declared.decision.Verdict.TheVariants.{Hit, Miss, Stored, NotStored, Exists, NotFound, Deleted, Touched, Counted, NotNumeric, TooLarge, OutOfMemory}
use Rattle.cache_server.specs.declared.decision.Change.{Change}
use Rattle.cache_server.specs.declared.decision.Change.TheVariants.{Leaves, Removes, Renews, Stores}
use Rattle.cache_server.specs.declared.decision.Decision.{Decision}
use Rattle.cache_server.specs.Expiry.{expiry_after, ttl_of}
use Rattle.cache_server.specs.Contents.{Contents, Key, entry_held, at_moment, using, losing, putting, storing_item, last_number, next_number}

-- nothing changes but that the key was used
abbrev pub finds : Verdict → Decision
finds verdict = record { verdict = verdict; change = Leaves }

-- an ask names a cas number, and the item has another
abbrev pub is_other : Option ℕ → ℕ → Bool
is_other None cas = false
is_other (Some asked) cas = not (asked == cas)

-- the item that a store begins
abbrev pub begun : ℕ → ℕ → Ask → CacheItem
begun now stamp ask = record { body = ask.body; flags = ask.flags; expiry = expiry_after now ask.exptime None; stamp = stamp }

abbrev pub stores : ℕ → ℕ → Ask → Decision
stores now stamp ask = record { verdict = Stored; change = Stores (begun now stamp ask) }

-- the item with other data; flags, expiry and stamp stay
abbrev pub joins : CacheItem → List ℕ → Decision
joins item body =
    if nat_lt data_limit (length body) then finds TooLarge
    else record { verdict = Stored; change = Stores (record item { body = body }) }

-- the item with the ask's expiry; its cas number stays
abbrev pub renewed : ℕ → Ask → Entry → Entry
renewed now ask entry = record { item = record entry.item { expiry = expiry_after now ask.exptime entry.item.expiry }; cas = entry.cas }

-- the number in place of the data, where these were one
abbrev pub counts_to : ℕ → Ask → CacheItem → Option ℕ → Decision
counts_to now ask item None = finds NotNumeric
counts_to now ask item (Some n) =
    record { verdict = Counted n; change = Stores (record item { body = decimal n; expiry = expiry_after now ask.exptime item.expiry }) }

abbrev pub counts : ℕ → Ask → Entry → Decision
counts now ask entry =
    if is_other ask.cas entry.cas then finds Exists else counts_to now ask entry.item (number_made ask entry.item.body)

-- nothing is held of the key
abbrev pub where_absent : ℕ → ℕ → Ask → Op → Decision
where_absent now stamp ask Get = finds Miss
where_absent now stamp ask Gat = finds Miss
where_absent now stamp ask Set = stores now stamp ask
where_absent now stamp ask Add = stores now stamp ask
where_absent now stamp ask Replace = finds NotStored
where_absent now stamp ask Append = finds NotStored
where_absent now stamp ask Prepend = finds NotStored
where_absent now stamp ask Cas = finds NotFound
where_absent now stamp ask Delete = finds NotFound
where_absent now stamp ask Incr = finds NotFound
where_absent now stamp ask Decr = finds NotFound
where_absent now stamp ask Touch = finds NotFound

-- an item is held of the key
abbrev pub where_held : ℕ → ℕ → Ask → Entry → Op → Decision
where_held now stamp ask entry Get = finds (Hit entry)
where_held now stamp ask entry Gat = record { verdict = Hit entry; change = Renews (renewed now ask entry) }
where_held now stamp ask entry Set = stores now stamp ask
where_held now stamp ask entry Add = finds NotStored
where_held now stamp ask entry Replace = stores now stamp ask
where_held now stamp ask entry Append = joins entry.item (entry.item.body ++ ask.body)
where_held now stamp ask entry Prepend = joins entry.item (ask.body ++ entry.item.body)
where_held now stamp ask entry Cas = if is_other ask.cas entry.cas then finds Exists else stores now stamp ask
where_held now stamp ask entry Delete = if is_other ask.cas entry.cas then finds Exists else record { verdict = Deleted; change = Removes }
where_held now stamp ask entry Incr = counts now ask entry
where_held now stamp ask entry Decr = counts now ask entry
where_held now stamp ask entry Touch = record { verdict = Touched; change = Renews (renewed now ask entry) }

abbrev pub decided : ℕ → ℕ → Ask → Option Entry → Decision
decided now stamp ask None = where_absent now stamp ask ask.op
decided now stamp ask (Some entry) = where_held now stamp ask entry ask.op

abbrev pub needs_number : Change → Bool
needs_number (Stores item) = true
needs_number Leaves = false
needs_number Removes = false
needs_number (Renews entry) = false

-- where no cas number is left, what needs one is refused
abbrev pub settled : ℕ → Decision → Decision
settled counter decision =
    if needs_number decision.change && (counter == last_number) then finds OutOfMemory else decision

-- what a cache holds after a change of a key
abbrev pub entry_changed : Contents → Key → Change → Contents
entry_changed c key Leaves = using c key
entry_changed c key Removes = losing c key
entry_changed c key (Renews entry) = putting c key entry
entry_changed c key (Stores item) = storing_item c key item

abbrev pub shown_cas : Bool → ℕ → Option ℕ
shown_cas true cas = Some cas
shown_cas false cas = None

-- the classic answer; a hit shows its cas number where that was asked for
abbrev pub classic_answer : Bool → Verdict → Answer
classic_answer with_cas (Hit entry) = answers.Hit entry.item.flags entry.item.body (shown_cas with_cas entry.cas)
classic_answer with_cas Miss = answers.Miss
classic_answer with_cas Stored = answers.Stored
classic_answer with_cas NotStored = answers.NotStored
classic_answer with_cas Exists = answers.Exists
classic_answer with_cas NotFound = answers.NotFound
classic_answer with_cas Deleted = answers.Deleted
classic_answer with_cas Touched = answers.Touched
classic_answer with_cas (Counted n) = answers.Number n
classic_answer with_cas NotNumeric = answers.ClientError (own_text texts.NotNumeric)
classic_answer with_cas TooLarge = answers.ServerError (own_text texts.TooLarge)
classic_answer with_cas OutOfMemory = answers.ServerError (own_text texts.OutOfMemory)

-- the entry that a change leaves of its key, under the number that it takes
abbrev pub left_by : ℕ → Option Entry → Change → Option Entry
left_by counter before Leaves = before
left_by counter before Removes = None
left_by counter before (Renews entry) = Some entry
left_by counter before (Stores item) = Some (record { item = item; cas = next_number counter })

-- what the return flags show of an entry
abbrev pub entry_fields : ℕ → List Token → Entry → Fields
entry_fields now tokens entry = record {
  body = then_some (wants tokens LetterV) entry.item.body;
  cas = then_some (wants tokens LetterC) entry.cas;
  flags = then_some (wants tokens LetterF) entry.item.flags;
  size = then_some (wants tokens LetterS) (length entry.item.body);
  ttl = then_some (wants tokens LetterT) (ttl_of now entry.item.expiry);
}

-- a code with nothing beside it
abbrev pub bare_decision : Code → Answer
bare_decision code = answers.Meta code (record { body = None; cas = None; flags = None; size = None; ttl = None })

-- a call that was done shows the entry that it leaves: VA where its data were asked for, else HD
abbrev pub done_answer : ℕ → List Token → Option Entry → Answer
done_answer now tokens None = bare_decision codes.Hd
done_answer now tokens (Some entry) = answers.Meta (if wants tokens LetterV then codes.Va else codes.Hd) (entry_fields now tokens entry)

-- the meta answer, where the call leaves this entry of its key
abbrev pub meta_answer : ℕ → List Token → Option Entry → Verdict → Answer
meta_answer now tokens left (Hit entry) = done_answer now tokens left
meta_answer now tokens left Miss = bare_decision codes.En
meta_answer now tokens left Stored = done_answer now tokens left
meta_answer now tokens left NotStored = bare_decision codes.Ns
meta_answer now tokens left Exists = bare_decision codes.Ex
meta_answer now tokens left NotFound = bare_decision codes.Nf
meta_answer now tokens left Deleted = done_answer now tokens left
meta_answer now tokens left Touched = done_answer now tokens left
meta_answer now tokens left (Counted n) = done_answer now tokens left
meta_answer now tokens left NotNumeric = answers.ClientError (own_text texts.NotNumeric)
meta_answer now tokens left TooLarge = answers.ServerError (own_text texts.TooLarge)
meta_answer now tokens left OutOfMemory = answers.ServerError (own_text texts.OutOfMemory)

-- the answer in the dialect that was asked in, by what is held before the call and the last cas number
abbrev pub answer_in : Dialect → ℕ → Ask → ℕ → Option Entry → Decision → Answer
answer_in Classic now ask counter before decision = classic_answer ask.with_cas decision.verdict
answer_in Meta now ask counter before decision = meta_answer now ask.tokens (left_by counter before decision.change) decision.verdict

-- what the table decides for a cache from which the expired items are gone
abbrev pub decided_in : ℕ → ℕ → Ask → Contents → Decision
decided_in now stamp ask c = settled c.counter (decided now stamp ask (entry_held c ask.key))

-- A call answers so, with the stamp of the item that it found, and leaves this; the expired items are gone before.
pub record Serves (now stamp : ℕ) (ask : Ask) (old : Contents) (answer : Answer) (found : Option ℕ) (new : Contents) : Type 0 where
  pub answer_is : answer ≡ answer_in ask.dialect now ask old.counter (entry_held old ask.key) (decided_in now stamp ask old)
  pub found_is : found ≡ option_map (λ entry. entry.item.stamp) (entry_held old ask.key)
  pub contents : new ≡ entry_changed old ask.key (decided_in now stamp ask old).change

-- a call at a moment answers so, with the stamp of the item that it found, and leaves this; the expired items are dropped first
abbrev pub Applies : ℤ → ℕ → Ask → Contents → Answer → Option ℕ → Contents → Type 0
Applies moment stamp ask old answer found new = Serves (nat_abs moment) stamp ask (at_moment (nat_abs moment) old) answer found new
