-- The tests of a request line's words. Source: memcached's protocol.txt, "Keys" and the lines of each command; the order of the tests is mcgate's own.
use Rattle.mc_types.specs.declared.limits.TheConstants.{KEY_LIMIT}
use Rattle.std.specs.Prelude.{ℕ, ◌+◌, ◌^◌, ◌&&◌, ℤ, Bool, List, ◌++◌, length, Option, Some, None, Result, Ok, Err, nat_le, if◌then◌else◌, codes, ok_or}
use Rattle.std.specs.List.{list_all}
use Rattle.text_words.specs.Number.{number_below, signed_number}
use Rattle.mc_types.specs.KeyText.{is_key_byte}
use Rattle.mc_types.specs.Asks.{data_limit}
use Rattle.wire_parts.specs.declared.refusal.RefusalReason.{RefusalReason}
use Rattle.wire_parts.specs.declared.refusal.RefusalReason.TheVariants.{BadKey, BadNumber, TooLarge}
use Rattle.wire_parts.specs.declared.skip.Skip.{Skip}
use Rattle.wire_parts.specs.declared.skip.Skip.TheVariants.{Nothing, Bytes}

-- what stands between the spaces of a line
abbrev pub Word : Type 0
Word = List ℕ

infixl 10 ◌>>=◌
-- the tests in turn: the first that fails decides
abbrev pub ◌>>=◌ : {A B : Type 0} → Result A RefusalReason → (A → Result B RefusalReason) → Result B RefusalReason
(Ok x) >>= f = f x
(Err e) >>= f = Err e

-- 1 to 250 bytes, each 33..=126 or 128..=255
abbrev pub is_key : Word → Bool
is_key word = nat_le 1 (length word) && nat_le (length word) KEY_LIMIT && list_all is_key_byte word

-- a key
abbrev pub key_of : Word → Result Word RefusalReason
key_of word = if is_key word then Ok word else Err BadKey

-- flags or a length: a number below 2^32
abbrev pub u32_of : Word → Result ℕ RefusalReason
u32_of word = ok_or (number_below (2 ^ 32) word) BadNumber

-- a cas number, or by how much is counted: a number below 2^64
abbrev pub u64_of : Word → Result ℕ RefusalReason
u64_of word = ok_or (number_below (2 ^ 64) word) BadNumber

-- a number of 64 bits with a sign
abbrev pub exptime_of : Word → Result ℤ RefusalReason
exptime_of word = ok_or (signed_number word) BadNumber

-- what is asked with data of so many bytes: at most 1,048,576
abbrev pub fitting : {A : Type 0} → ℕ → A → Result A RefusalReason
fitting length order = if nat_le length data_limit then Ok order else Err TooLarge

-- a data block with its end
abbrev pub block_text : List ℕ → List ℕ
block_text body = body ++ codes "\r\n"

-- a length that was read: the data and their end
abbrev pub skip_length : Option ℕ → Skip
skip_length None = Nothing
skip_length (Some n) = Bytes (n + 2)

-- a length, where a word is there and is one
abbrev pub length_in : Option Word → Option ℕ
length_in None = None
length_in (Some word) = number_below (2 ^ 32) word
