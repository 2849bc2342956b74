-- The flags of a meta line: which are served, in which order they are tested, and what they say. Source: memcached's protocol.txt, "Meta Commands"; which of its flags are served, that none may stand twice, the order of the tests and the length of `O` are mcgate's own.
use Rattle.std.specs.Prelude.{ℕ, ◌^◌, ◌&&◌, ◌||◌, Bool, true, false, not, List, [], ◌∷◌, ◌++◌, length, drop, Option, Some, None, Result, Ok, Err, nat_le, ◌==◌, if◌then◌else◌, slice_index, codes}
use Rattle.std.specs.List.{list_all, list_any, filter_map}
use Rattle.text_words.specs.Number.{number_below, signed_number}
use Rattle.mc_types.specs.declared.limits.TheConstants.{OPAQUE_LIMIT}
use Rattle.mc_types.specs.OpaqueText.{is_opaque_byte}
use Rattle.mc_types.specs.declared.ask.Op.{Op}
use Rattle.mc_types.specs.declared.ask.Op.TheVariants as ops
use Rattle.mc_types.specs.declared.token.Token.{Token}
use Rattle.mc_types.specs.declared.token.Token.TheVariants as tokens
use Rattle.wire_parts.specs.declared.refusal.RefusalReason.{RefusalReason}
use Rattle.wire_parts.specs.declared.refusal.RefusalReason.TheVariants.{FlagNotServed, FlagTwice, BadToken}
use Rattle.wire_parts.specs.Tests.{Word, ◌>>=◌}
use Rattle.wire_meta.specs.declared.command.Kind.{Kind}
use Rattle.wire_meta.specs.declared.command.Kind.TheVariants.{Get, Store, Delete, Count}
use Rattle.wire_meta.specs.declared.command.Values.{Values}

-- the letters of the flags that a command has
abbrev pub kind_letters : Kind → List ℕ
kind_letters Get = codes "cfkqstvOT"
kind_letters Store = codes "ckqCFOTM"
kind_letters Delete = codes "kqCO"
kind_letters Count = codes "ckqtvCDOTM"

-- a flag's letter
abbrev pub flag_letter : Word → ℕ
flag_letter word = slice_index word 0

-- what stands after a flag's letter
abbrev pub flag_text : Word → Word
flag_text word = drop 1 word

-- the command has a flag with this letter
abbrev pub is_served : Kind → ℕ → Bool
is_served kind letter = list_any (λ b. b == letter) (kind_letters kind)

-- a flag with this letter stands among these
abbrev pub stands_in : ℕ → List Word → Bool
stands_in letter words = list_any (λ word. flag_letter word == letter) words

-- the modes of `ms`, in either case of letters
abbrev pub store_mode : ℕ → Option Op
store_mode b =
    if b == 83 || b == 115 then Some ops.Set
    else if b == 69 || b == 101 then Some ops.Add
    else if b == 65 || b == 97 then Some ops.Append
    else if b == 80 || b == 112 then Some ops.Prepend
    else if b == 82 || b == 114 then Some ops.Replace
    else None

-- the modes of `ma`: `I`, `i` and `+`, `D`, `d` and `-`
abbrev pub count_mode : ℕ → Option Op
count_mode b =
    if b == 73 || b == 105 || b == 43 then Some ops.Incr
    else if b == 68 || b == 100 || b == 45 then Some ops.Decr
    else None

-- the mode of one byte; the other commands have none
abbrev pub mode_by : Kind → ℕ → Option Op
mode_by Get b = None
mode_by Store b = store_mode b
mode_by Delete b = None
mode_by Count b = count_mode b

-- the mode that a text is
abbrev pub mode_of : Kind → Word → Option Op
mode_of kind [] = None
mode_of kind (b ∷ []) = mode_by kind b
mode_of kind (b ∷ c ∷ text) = None

-- 1 to 32 bytes, each 33..=126
abbrev pub is_opaque : Word → Bool
is_opaque text = nat_le 1 (length text) && nat_le (length text) OPAQUE_LIMIT && list_all is_opaque_byte text

abbrev pub is_some : {A : Type 0} → Option A → Bool
is_some None = false
is_some (Some x) = true

abbrev pub is_empty_word : Word → Bool
is_empty_word [] = true
is_empty_word (b ∷ text) = false

-- the text after the letter is a value of its flag: a cas number or how much is counted (`C`, `D`), flags (`F`), an exptime (`T`), a mode (`M`), a text (`O`); the other flags have none
abbrev pub has_value : Kind → ℕ → Word → Bool
has_value kind letter text =
    if letter == 67 || letter == 68 then is_some (number_below (2 ^ 64) text)
    else if letter == 70 then is_some (number_below (2 ^ 32) text)
    else if letter == 84 then is_some (signed_number text)
    else if letter == 77 then is_some (mode_of kind text)
    else if letter == 79 then is_opaque text
    else is_empty_word text

-- the tests of one flag, after those that stand before it: its letter, its having come before, its value
abbrev pub flag_of : Kind → List Word → Word → Result Word RefusalReason
flag_of kind before word =
    if not (is_served kind (flag_letter word)) then Err FlagNotServed
    else if stands_in (flag_letter word) before then Err FlagTwice
    else if has_value kind (flag_letter word) (flag_text word) then Ok word
    else Err BadToken

-- the flags of a line, these before and those that follow: each is tested before the next
abbrev pub flags_of : Kind → List Word → List Word → Result (List Word) RefusalReason
flags_of kind before [] = Ok before
flags_of kind before (word ∷ words) = do
  flag ← flag_of kind before word
  flags_of kind (before ++ flag ∷ []) words

-- the one, or else the other
abbrev pub or_else : {A : Type 0} → Option A → Option A → Option A
or_else (Some x) other = Some x
or_else None other = other

-- what a flag says, if it has this letter
abbrev pub says : {A : Type 0} → ℕ → (Word → Option A) → Word → Option A
says letter read word = if flag_letter word == letter then read (flag_text word) else None

-- what the flag with this letter says, if it stands there: it stands once at most
abbrev pub read_in : {A : Type 0} → ℕ → (Word → Option A) → List Word → Option A
read_in letter read [] = None
read_in letter read (word ∷ words) = or_else (read_in letter read words) (says letter read word)

-- what the flags with a value say, and whether `q` stands among them
abbrev pub values_of : Kind → List Word → Values
values_of kind words = record {
  cas = read_in 67 (number_below (2 ^ 64)) words;
  delta = read_in 68 (number_below (2 ^ 64)) words;
  exptime = read_in 84 signed_number words;
  flags = read_in 70 (number_below (2 ^ 32)) words;
  mode = read_in 77 (mode_of kind) words;
  quiet = stands_in 113 words;
}

-- what the flags of a command say with one flag more
abbrev pub value_more : Kind → Word → Values → Values
value_more kind word v = record {
  cas = or_else (says 67 (number_below (2 ^ 64)) word) v.cas;
  delta = or_else (says 68 (number_below (2 ^ 64)) word) v.delta;
  exptime = or_else (says 84 signed_number word) v.exptime;
  flags = or_else (says 70 (number_below (2 ^ 32)) word) v.flags;
  mode = or_else (says 77 (mode_of kind) word) v.mode;
  quiet = v.quiet || (flag_letter word == 113);
}

-- what is wanted back by a flag with this letter
abbrev pub wanted_by : ℕ → Word → Option Token
wanted_by letter text =
    if letter == 99 then Some tokens.Cas
    else if letter == 102 then Some tokens.Flags
    else if letter == 107 then Some tokens.Key
    else if letter == 115 then Some tokens.Size
    else if letter == 116 then Some tokens.Ttl
    else if letter == 118 then Some tokens.Value
    else if letter == 79 then (if is_opaque text then Some (tokens.Opaque text) else None)
    else None

-- what a flag wants back, if it is a return flag or `O`
abbrev pub flag_wants : Word → Option Token
flag_wants word = wanted_by (flag_letter word) (flag_text word)

-- what these flags want back, in their order
abbrev pub tokens_in : List Word → List Token
tokens_in words = filter_map flag_wants words
