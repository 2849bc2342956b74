-- The answer to the meta form of a get as servers write it mostly. Source: memcached's protocol.txt, "Meta Get".
use Rattle.std.specs.Prelude.{◌≡◌, ℕ, ◌+◌, ◌^◌, ◌≤◌, true, false, List, [], ◌∷◌, ◌++◌, Some, length, drop, codes}
use Rattle.text_words.specs.Line.{CR, LF}
use Rattle.text_words.specs.Number.{number_below}
use Rattle.text_words.specs.Spelling.{words_line}
use Rattle.mc_types.specs.Asks.{data_limit}
use Rattle.wire_answers.specs.Tokens.{letter_f, letter_k}
use Rattle.mc_types.specs.declared.ask.Ask.{Ask}
use Rattle.wire_stream.specs.Form.{is_retrieval}
use Rattle.wire_stream.specs.declared.meta_gets.usual.UsualHit.{UsualHit}

-- VA, how long the data are, the key after k and the flags after f
abbrev pub usual_words : List ℕ → List ℕ → List ℕ → List (List ℕ)
usual_words key len flags = codes "VA" ∷ len ∷ (letter_k ∷ key) ∷ (letter_f ∷ flags) ∷ []

-- the bytes begin with the line of a usual hit, each word after one space, and the data and their end follow
pub record IsUsual (key bytes : List ℕ) (hit : UsualHit) : Type 0 where
  pub len : List ℕ
  pub flags : List ℕ
  pub rest : List ℕ
  pub whole : bytes ≡ words_line (usual_words key len flags) ++ rest
  pub len_is : number_below (data_limit + 1) len ≡ Some hit.len
  pub flags_is : number_below (2 ^ 32) flags ≡ Some hit.flags
  pub start : hit.start ≡ length (words_line (usual_words key len flags))
  pub within : hit.len ≤ length rest
  pub end : (after : List ℕ) × (drop hit.len rest ≡ CR ∷ LF ∷ after)
  pub used : hit.used ≡ hit.start + hit.len + 2

-- the bytes begin with a usual hit, and the ask is a get that wants no cas number
pub record IsUsualTo (ask : Ask) (bytes : List ℕ) (hit : UsualHit) : Type 0 where
  pub retrieves : is_retrieval ask ≡ true
  pub no_cas : ask.with_cas ≡ false
  pub usual : IsUsual ask.key bytes hit
