-- The keys of a retrieval's line, one after another. Source: memcached's protocol.txt, "Retrieval command".
use Rattle.std.specs.Prelude.{◌≡◌, ℕ, Bool, true, false, List, [], ◌∷◌, length, drop, ◌==◌}
use Rattle.text_words.specs.Word.{words, text_at, IsNextWord}
use Rattle.text_words.specs.declared.word.Span.{Span}
use Rattle.wire_classic.specs.declared.next_key.NextKey.{NextKey}
use Rattle.wire_classic.specs.declared.next_key.NextKey.TheVariants.{Nothing, Key, Other}
use Rattle.wire_parts.specs.Tests.{is_key}
use Rattle.wire_parts.specs.Places.{SpanIsIn}
use Rattle.wire_classic.specs.declared.command.Keys.{Keys}
use Rattle.wire_classic.specs.Places.{AreIn, keys_in}

-- a word ends before these bytes
abbrev pub ends_word : List ℕ → Bool
ends_word [] = true
ends_word (b ∷ bytes) = b == 32

-- what stands next from a place on: nothing, a word that is a key, or another word
abbrev pub IsNextKey : List ℕ → ℕ → NextKey → Type 0
IsNextKey line at Nothing = words (drop at line) ≡ []
IsNextKey line at (Key s) = IsNextWord line at s × (is_key (text_at line s) ≡ true)
IsNextKey line at Other = (s : Span) × IsNextWord line at s × (is_key (text_at line s) ≡ false)

-- the word there is a key, and the first of these, before the rest
pub record IsFirstKey (line : List ℕ) (s : Span) (rest all : List (List ℕ)) : Type 0 where
  pub placed : SpanIsIn (length line) s
  pub key : is_key (text_at line s) ≡ true
  pub first : all ≡ text_at line s ∷ rest

-- these words stand there
abbrev pub AreKeysOfLine : List ℕ → List (List ℕ) → Keys → Type 0
AreKeysOfLine line all keys = AreIn line keys × (keys_in line keys ≡ all)
