-- What a meta line says, by its words. Source: memcached's protocol.txt, "Meta Commands"; the order of the tests, and what is passed over after a refused line, are mcgate's own.
use Rattle.std.specs.Prelude.{ℕ, Bool, true, false, List, [], ◌∷◌, Option, Some, None, Result, Ok, Err, if◌then◌else◌, ◌&&◌, not, slice_get}
use Rattle.mc_types.specs.declared.ask.Op.{Op}
use Rattle.mc_types.specs.declared.ask.Op.TheVariants as ops
use Rattle.wire_parts.specs.declared.refusal.RefusalReason.{RefusalReason}
use Rattle.wire_parts.specs.declared.refusal.RefusalReason.TheVariants.{Unknown, FlagNotServed}
use Rattle.wire_parts.specs.declared.skip.Skip.{Skip}
use Rattle.wire_parts.specs.declared.skip.Skip.TheVariants.{Nothing}
use Rattle.wire_parts.specs.declared.proxy_command.ProxyCommand.{ProxyCommand}
use Rattle.wire_parts.specs.declared.proxy_command.ProxyCommand.TheVariants as owns
use Rattle.wire_parts.specs.Tests.{Word, ◌>>=◌, key_of, u32_of, fitting, skip_length, length_in}
use Rattle.wire_meta.specs.declared.command.Kind.{Kind}
use Rattle.wire_meta.specs.declared.command.Kind.TheVariants.{Get, Store, Delete, Count}
use Rattle.wire_meta.specs.declared.command.Verb.{Verb}
use Rattle.wire_meta.specs.declared.command.Verb.TheVariants.{Keyed, Noop}
use Rattle.wire_meta.specs.declared.command.Values.{Values}
use Rattle.wire_meta.specs.CommandWords.{meta_verb_of}
use Rattle.wire_meta.specs.Flags.{flags_of, values_of, is_some}

-- what a request line asks: of a key, with the length of the data of `ms`, and the flags as they stand there; or of mcgate itself
pub data MetaOrder : Type 0 where
  Asking : (kind : Kind) (key : Word) (length : Option ℕ) (flags : List Word) → MetaOrder
  OfItself : (own : ProxyCommand) → MetaOrder

-- no mode, or that of a set
abbrev pub sets : Option Op → Bool
sets None = true
sets (Some ops.Set) = true
sets (Some _) = false

-- a cas number with a mode other than set
abbrev pub mixes : Values → Bool
mixes v = is_some v.cas && not (sets v.mode)

-- the flags of `ms`: a cas number is compared by a set alone
abbrev pub comparing : List Word → Result (List Word) RefusalReason
comparing flags = if mixes (values_of Store flags) then Err FlagNotServed else Ok flags

-- `mg`, `md` and `ma`: key, flags
abbrev pub asking : Kind → List Word → Result MetaOrder RefusalReason
asking kind [] = Err Unknown
asking kind (key ∷ words) = do
  key ← key_of key
  flags ← flags_of kind [] words
  Ok (Asking kind key None flags)

-- `ms`: key, length, flags
abbrev pub meta_storing : List Word → Result MetaOrder RefusalReason
meta_storing (key ∷ length ∷ words) = do
  key ← key_of key
  length ← u32_of length
  flags ← flags_of Store [] words
  flags ← comparing flags
  fitting length (Asking Store key (Some length) flags)
meta_storing _ = Err Unknown

-- `mn`: nothing
abbrev pub noop : List Word → Result MetaOrder RefusalReason
noop [] = Ok (OfItself owns.Noop)
noop (word ∷ words) = Err Unknown

-- what the words after a command word ask
abbrev pub meta_ordered_by : Option Verb → List Word → Result MetaOrder RefusalReason
meta_ordered_by None words = Err Unknown
meta_ordered_by (Some (Keyed Get)) words = asking Get words
meta_ordered_by (Some (Keyed Store)) words = meta_storing words
meta_ordered_by (Some (Keyed Delete)) words = asking Delete words
meta_ordered_by (Some (Keyed Count)) words = asking Count words
meta_ordered_by (Some Noop) words = noop words

-- what the words of a line ask, or the first test that they fail
abbrev pub meta_order_of : List Word → Result MetaOrder RefusalReason
meta_order_of [] = Err Unknown
meta_order_of (word ∷ words) = meta_ordered_by (meta_verb_of word) words

-- the command with a data block
abbrev pub has_meta_block : Option Verb → Bool
has_meta_block (Some (Keyed Store)) = true
has_meta_block _ = false

-- what is passed over after a refused line: the data that the third word of `ms` tells of
abbrev pub meta_skip_of : List Word → Skip
meta_skip_of [] = Nothing
meta_skip_of (word ∷ words) = if has_meta_block (meta_verb_of word) then skip_length (length_in (slice_get words 1)) else Nothing
