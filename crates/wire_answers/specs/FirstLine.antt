-- What the first line of an answer says to its ask. Source: memcached's protocol.txt, "Retrieval command", "Meta Commands" and "Error strings"; that a line may have more spaces, and the limits, are mcgate's own.
use Rattle.mc_types.specs.declared.limits.TheConstants.{ERROR_TEXT_LIMIT}
use Rattle.std.specs.Prelude.{ℕ, ◌+◌, ◌^◌, ◌&&◌, Bool, true, false, List, [], ◌∷◌, length, Option, Some, None, option_map, nat_le, codes, if◌then◌else◌}
use Rattle.std.specs.Option.{option_and_then}
use Rattle.std.specs.List.{list_all, after_first}
use Rattle.std.specs.Str.{bytes_eq}
use Rattle.text_words.specs.Word.{words, is_space}
use Rattle.text_words.specs.Number.{number_below}
use Rattle.mc_types.specs.Asks.{data_limit}
use Rattle.mc_types.specs.Fits.{is_text_byte}
use Rattle.mc_types.specs.declared.ask.Op.{Op}
use Rattle.mc_types.specs.declared.ask.Op.TheVariants.{Get, Gat}
use Rattle.mc_types.specs.declared.ask.Ask.{Ask}
use Rattle.mc_types.specs.declared.ask.Dialect.{Dialect}
use Rattle.mc_types.specs.declared.ask.Dialect.TheVariants as dialects
use Rattle.mc_types.specs.declared.ask.Dialect.TheVariants.{Classic}
use Rattle.mc_types.specs.declared.answer.Code.TheVariants.{Hd}
use Rattle.mc_types.specs.declared.answer.Answer.{Answer}
use Rattle.mc_types.specs.declared.answer.Answer.TheVariants.{ClientError, ServerError, Error, Meta}
use Rattle.wire_answers.specs.declared.meta.line.MetaLine.{MetaLine}
use Rattle.wire_answers.specs.declared.meta.line.MetaLine.TheVariants as lines
use Rattle.wire_answers.specs.Told.{none_told, fields_told}
use Rattle.wire_answers.specs.Line.{meta_said}
use Rattle.wire_answers.specs.declared.line_kinds.FirstLine.{FirstLine}
use Rattle.wire_answers.specs.declared.line_kinds.FirstLine.TheVariants.{Whole, Hit, Value, NoAnswer}
use Rattle.wire_answers.specs.declared.line_kinds.HitLine.{HitLine}
use Rattle.wire_answers.specs.Table.{word_answer}

-- the spaces before a line's first word count for nothing
abbrev pub from_first_word : List ℕ → List ℕ
from_first_word [] = []
from_first_word (b ∷ bytes) = if is_space b then from_first_word bytes else b ∷ bytes

-- what stands after a line's first word and one space
abbrev pub after_word : List ℕ → List ℕ
after_word line = after_first is_space (from_first_word line)

-- the text of an error line has at most 1,024 bytes, each 32..=126 or 128..=255
abbrev pub is_error_text : List ℕ → Bool
is_error_text text = nat_le (length text) ERROR_TEXT_LIMIT && list_all is_text_byte text

-- the text of an error line is all that stands after its word and one space
abbrev pub error_text : List ℕ → Option (List ℕ)
error_text line = if is_error_text (after_word line) then Some (after_word line) else None

-- an error line with this text
abbrev pub error_said : (List ℕ → Answer) → Option (List ℕ) → FirstLine
error_said error (Some text) = Whole (error text)
error_said error None = NoAnswer

-- the words after a hit's length: a cas number, which has to be there where it is asked for, and is dropped where not
abbrev pub cas_said : Bool → List (List ℕ) → Option (Option ℕ)
cas_said true (cas ∷ []) = option_map Some (number_below (2 ^ 64) cas)
cas_said false (cas ∷ []) = option_map (λ n. None) (number_below (2 ^ 64) cas)
cas_said false [] = Some None
cas_said _ _ = None

-- the words after VALUE: the key that was asked, the flags and the length of the data
abbrev pub hit_said : List ℕ → Bool → List (List ℕ) → Option HitLine
hit_said key with_cas (name ∷ flags ∷ len ∷ after) =
    if bytes_eq name key then
    option_and_then (λ f. option_and_then (λ n. option_map (λ c. record { flags = f; len = n; cas = c }) (cas_said with_cas after))
    (number_below (data_limit + 1) len)) (number_below (2 ^ 32) flags)
    else None
hit_said key with_cas _ = None

-- a hit answers these alone
abbrev pub is_fetch : Op → Bool
is_fetch Get = true
is_fetch Gat = true
is_fetch _ = false

-- a line that says nothing to the ask is foreign
abbrev pub hit_or_foreign : Option HitLine → FirstLine
hit_or_foreign (Some hit) = Hit hit
hit_or_foreign None = NoAnswer

-- a line that says a whole answer is that answer; one that says nothing to the ask is foreign
abbrev pub whole_or_foreign : Option Answer → FirstLine
whole_or_foreign (Some answer) = Whole answer
whole_or_foreign None = NoAnswer

-- a line of one word
abbrev pub one_word_line : Op → List ℕ → List (List ℕ) → FirstLine
one_word_line op word [] = whole_or_foreign (word_answer op word)
one_word_line op word (other ∷ more) = NoAnswer

-- what a line of these words says to a classic ask
abbrev pub classic_said : Ask → List ℕ → List (List ℕ) → FirstLine
classic_said ask word more =
    if bytes_eq word (codes "VALUE") && is_fetch ask.op then hit_or_foreign (hit_said ask.key ask.with_cas more)
    else one_word_line ask.op word more

-- what the line of a meta answer says
abbrev pub line_said : MetaLine → FirstLine
line_said (lines.Done told) = Whole (Meta Hd (fields_told told None))
line_said (lines.Value value) = Value value
line_said (lines.Other code) = Whole (Meta code (fields_told none_told None))

abbrev pub line_or_foreign : Option MetaLine → FirstLine
line_or_foreign (Some line) = line_said line
line_or_foreign None = NoAnswer

abbrev pub is_error_word : List ℕ → List (List ℕ) → Bool
is_error_word word [] = bytes_eq word (codes "ERROR")
is_error_word word (other ∷ more) = false

-- what a line of these words says to a meta ask
abbrev pub meta_or_error : Ask → List ℕ → List (List ℕ) → FirstLine
meta_or_error ask word more = if is_error_word word more then Whole Error else line_or_foreign (meta_said ask word more)

abbrev pub in_dialect : Dialect → Ask → List ℕ → List (List ℕ) → FirstLine
in_dialect Classic ask word more = classic_said ask word more
in_dialect dialects.Meta ask word more = meta_or_error ask word more

-- a line of these words, with this text of an error
abbrev pub words_said : Ask → Option (List ℕ) → List (List ℕ) → FirstLine
words_said ask text [] = NoAnswer
words_said ask text (word ∷ more) =
    if bytes_eq word (codes "CLIENT_ERROR") then error_said ClientError text
    else if bytes_eq word (codes "SERVER_ERROR") then error_said ServerError text
    else in_dialect ask.dialect ask word more

-- what the line says to the ask
abbrev pub kind_of_line : Ask → List ℕ → FirstLine
kind_of_line ask line = words_said ask (error_text line) (words line)
