-- What a request line says, by its words. Source: memcached's protocol.txt, the lines of each command; the order of the tests, and what is passed over after a refused line, are mcgate's own.
use Rattle.std.specs.Prelude.{ℕ, ℤ, Bool, true, false, List, [], ◌∷◌, Option, Some, None, Result, Ok, Err, if◌then◌else◌, slice_get, codes}
use Rattle.std.specs.List.{list_all}
use Rattle.std.specs.Str.{bytes_eq}
use Rattle.mc_types.specs.declared.ask.Op.{Op}
use Rattle.wire_parts.specs.Tests.{Word, ◌>>=◌, is_key, key_of, u32_of, u64_of, exptime_of, fitting, skip_length, length_in}
use Rattle.wire_classic.specs.CommandWords.{verb_of}
use Rattle.wire_classic.specs.declared.command.Verb.{Verb}
use Rattle.wire_classic.specs.declared.command.Verb.TheVariants as verbs
use Rattle.wire_parts.specs.declared.proxy_command.ProxyCommand.{ProxyCommand}
use Rattle.wire_parts.specs.declared.refusal.RefusalReason.{RefusalReason}
use Rattle.wire_parts.specs.declared.refusal.RefusalReason.TheVariants.{Unknown, BadKey}
use Rattle.wire_parts.specs.declared.skip.Skip.{Skip}
use Rattle.wire_parts.specs.declared.skip.Skip.TheVariants.{Nothing}

-- the key and the numbers that each store has
pub record Storing : Type 0 where
  pub key : Word
  pub flags : ℕ
  pub exptime : ℤ
  pub length : ℕ

-- what a request line asks
pub data Order : Type 0 where
  Retrieval : (exptime : Option ℤ) (with_cas : Bool) (keys : List Word) → Order
  Storage : (op : Op) (stored : Storing) (quiet : Bool) → Order
  Swapping : (stored : Storing) (cas : ℕ) (quiet : Bool) → Order
  Deletion : (key : Word) (quiet : Bool) → Order
  Touching : (key : Word) (exptime : ℤ) (quiet : Bool) → Order
  Counting : (op : Op) (key : Word) (delta : ℕ) (quiet : Bool) → Order
  OfItself : (own : ProxyCommand) → Order

-- a key or more
abbrev pub keys_of : List Word → Result (List Word) RefusalReason
keys_of [] = Err Unknown
keys_of (key ∷ keys) = if list_all is_key (key ∷ keys) then Ok (key ∷ keys) else Err BadKey

-- whether `noreply` stands there, and nothing else
abbrev pub noreply_of : List Word → Result Bool RefusalReason
noreply_of [] = Ok false
noreply_of (word ∷ []) = if bytes_eq word (codes "noreply") then Ok true else Err Unknown
noreply_of (word ∷ other ∷ more) = Err Unknown

-- whether `noreply` stands there, after the 0 that may stand before it, and nothing else
abbrev pub delete_tail_of : List Word → Result Bool RefusalReason
delete_tail_of [] = Ok false
delete_tail_of (word ∷ more) = if bytes_eq word (codes "0") then noreply_of more else noreply_of (word ∷ more)

-- `get` and `gets`: keys
abbrev pub getting : Bool → List Word → Result Order RefusalReason
getting with_cas words = do
  keys ← keys_of words
  Ok (Retrieval None with_cas keys)

-- `gat` and `gats`: an exptime, keys
abbrev pub getting_and_touching : Bool → List Word → Result Order RefusalReason
getting_and_touching with_cas (exptime ∷ words) = do
  keys ← keys_of words
  exptime ← exptime_of exptime
  Ok (Retrieval (Some exptime) with_cas keys)
getting_and_touching with_cas [] = Err Unknown

-- a retrieval, with an exptime or without
abbrev pub retrieval : Bool → Bool → List Word → Result Order RefusalReason
retrieval false with_cas words = getting with_cas words
retrieval true with_cas words = getting_and_touching with_cas words

-- key, flags, exptime, length
abbrev pub storing_of : Word → Word → Word → Word → Result Storing RefusalReason
storing_of key flags exptime length = do
  key ← key_of key
  flags ← u32_of flags
  exptime ← exptime_of exptime
  length ← u32_of length
  Ok (record { key = key; flags = flags; exptime = exptime; length = length })

-- `set add replace append prepend`: key, flags, exptime, length, and `noreply` or not
abbrev pub storage : Op → List Word → Result Order RefusalReason
storage op (key ∷ flags ∷ exptime ∷ length ∷ more) = do
  quiet ← noreply_of more
  stored ← storing_of key flags exptime length
  fitting stored.length (Storage op stored quiet)
storage op _ = Err Unknown

-- `cas`: the same with a cas number after the length
abbrev pub swapping : List Word → Result Order RefusalReason
swapping (key ∷ flags ∷ exptime ∷ length ∷ cas ∷ more) = do
  quiet ← noreply_of more
  stored ← storing_of key flags exptime length
  cas ← u64_of cas
  fitting stored.length (Swapping stored cas quiet)
swapping _ = Err Unknown

-- `delete`: key, 0 or not, `noreply` or not
abbrev pub deletion : List Word → Result Order RefusalReason
deletion [] = Err Unknown
deletion (key ∷ more) = do
  quiet ← delete_tail_of more
  key ← key_of key
  Ok (Deletion key quiet)

-- `touch`: key, exptime, `noreply` or not
abbrev pub touching : List Word → Result Order RefusalReason
touching (key ∷ exptime ∷ more) = do
  quiet ← noreply_of more
  key ← key_of key
  exptime ← exptime_of exptime
  Ok (Touching key exptime quiet)
touching _ = Err Unknown

-- `incr` and `decr`: key, by how much, `noreply` or not
abbrev pub counting : Op → List Word → Result Order RefusalReason
counting op (key ∷ delta ∷ more) = do
  quiet ← noreply_of more
  key ← key_of key
  delta ← u64_of delta
  Ok (Counting op key delta quiet)
counting op _ = Err Unknown

-- `version` and `quit`: nothing
abbrev pub of_itself : ProxyCommand → List Word → Result Order RefusalReason
of_itself own [] = Ok (OfItself own)
of_itself own (word ∷ more) = Err Unknown

-- what the words after a command word ask
abbrev pub ordered_by : Option Verb → List Word → Result Order RefusalReason
ordered_by None words = Err Unknown
ordered_by (Some (verbs.Store op)) words = storage op words
ordered_by (Some verbs.Cas) words = swapping words
ordered_by (Some (verbs.Retrieve touching with_cas)) words = retrieval touching with_cas words
ordered_by (Some verbs.Delete) words = deletion words
ordered_by (Some verbs.Touch) words = touching words
ordered_by (Some (verbs.Count op)) words = counting op words
ordered_by (Some (verbs.Own own)) words = of_itself own words

-- what the words of a line ask, or the first test that they fail
abbrev pub classic_order_of : List Word → Result Order RefusalReason
classic_order_of [] = Err Unknown
classic_order_of (word ∷ words) = ordered_by (verb_of word) words

-- the commands with a data block
abbrev pub has_classic_block : Option Verb → Bool
has_classic_block (Some (verbs.Store op)) = true
has_classic_block (Some verbs.Cas) = true
has_classic_block _ = false

-- what is passed over after a refused line: the data that a store's fifth word tells of
abbrev pub classic_skip_of : List Word → Skip
classic_skip_of [] = Nothing
classic_skip_of (word ∷ words) = if has_classic_block (verb_of word) then skip_length (length_in (slice_get words 3)) else Nothing
