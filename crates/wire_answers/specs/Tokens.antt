-- The return tokens of a meta answer's line. Source: memcached's protocol.txt, "Meta Commands": a token is its flag and the text after it. That k and O have to be what was asked, and that no token stands twice, is mcgate's own.
use Rattle.std.specs.Prelude.{ℕ, ◌+◌, ◌^◌, ◌&&◌, ℤ, pos, negsuc, Bool, false, true, not, List, [], ◌∷◌, ◌||◌, Option, Some, None, option_map, is_some, codes, ◌==◌, if◌then◌else◌}
use Rattle.std.specs.Option.{option_and_then}
use Rattle.std.specs.Str.{bytes_eq}
use Rattle.text_words.specs.Number.{number_below}
use Rattle.mc_types.specs.Asks.{data_limit}
use Rattle.mc_types.specs.Tokens.{wants, LetterC, LetterF, LetterK, LetterS, LetterT}
use Rattle.mc_types.specs.declared.token.Token.{Token}
use Rattle.mc_types.specs.declared.token.Token.TheVariants.{Opaque}
use Rattle.mc_types.specs.declared.ask.Ask.{Ask}
use Rattle.wire_answers.specs.declared.meta.told.Told.{Told}

-- the letters of the tokens
abbrev pub letter_c : ℕ
letter_c = 99

abbrev pub letter_f : ℕ
letter_f = 102

abbrev pub letter_k : ℕ
letter_k = 107

abbrev pub letter_s : ℕ
letter_s = 115

abbrev pub letter_t : ℕ
letter_t = 116

abbrev pub letter_o : ℕ
letter_o = 79

-- the seconds left: -1, or a number below 2^63
abbrev pub ttl_in : List ℕ → Option ℤ
ttl_in text = if bytes_eq text (codes "-1") then Some (negsuc 0) else option_map pos (number_below (2 ^ 63) text)

abbrev pub is_opaque_token : List ℕ → Token → Bool
is_opaque_token text (Opaque asked) = bytes_eq asked text
is_opaque_token text _ = false

-- the text is the one that was asked to come back
abbrev pub asks_opaque : List Token → List ℕ → Bool
asks_opaque [] text = false
asks_opaque (token ∷ tokens) text = is_opaque_token text token || asks_opaque tokens text

-- a value that was asked for and didn't come before
abbrev pub once : {A : Type 0} → Bool → Option A → Option A → Option A
once asked before value = if asked && not (is_some before) then value else None

-- what a token says beside those before it
abbrev pub with_token : Ask → ℕ → List ℕ → Told → Option Told
with_token ask letter text told =
    if letter == letter_c then option_map (λ n. record told { cas = Some n }) (once (wants ask.tokens LetterC) told.cas (number_below (2 ^ 64) text))
    else if letter == letter_f then option_map (λ n. record told { flags = Some n }) (once (wants ask.tokens LetterF) told.flags (number_below (2 ^ 32) text))
    else if letter == letter_s then option_map (λ n. record told { size = Some n }) (once (wants ask.tokens LetterS) told.size (number_below (data_limit + 1) text))
    else if letter == letter_t then option_map (λ z. record told { ttl = Some z }) (once (wants ask.tokens LetterT) told.ttl (ttl_in text))
    else if letter == letter_k then (if wants ask.tokens LetterK && not told.key && bytes_eq text ask.key then Some (record told { key = true }) else None)
    else if letter == letter_o then (if not told.opaque && asks_opaque ask.tokens text then Some (record told { opaque = true }) else None)
    else None

abbrev pub with_word : Ask → List ℕ → Told → Option Told
with_word ask [] told = None
with_word ask (letter ∷ text) told = with_token ask letter text told

-- what these tokens say, in whatever order they stand; None where one of them wasn't asked for, stands twice, or has a text that isn't its
abbrev pub with_words : Ask → List (List ℕ) → Told → Option Told
with_words ask [] told = Some told
with_words ask (word ∷ words) told = option_and_then (with_words ask words) (with_word ask word told)
