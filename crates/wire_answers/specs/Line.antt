-- What the line of a meta answer says to its ask. Source: memcached's protocol.txt, "Meta Commands": the codes of each command; that no other code is taken, and that each of c, f, s and t that was asked for has to stand on HD and VA, is mcgate's own.
use Rattle.std.specs.Prelude.{ℕ, ◌+◌, ◌&&◌, Bool, true, false, not, List, [], ◌∷◌, Option, Some, None, option_map, is_some, codes, ◌==◌, if◌then◌else◌}
use Rattle.std.specs.Option.{option_and_then}
use Rattle.std.specs.Str.{bytes_eq}
use Rattle.text_words.specs.Number.{number_below}
use Rattle.mc_types.specs.Asks.{data_limit}
use Rattle.mc_types.specs.Tokens.{wants, LetterC, LetterF, LetterS, LetterT, LetterV}
use Rattle.mc_types.specs.declared.token.Token.{Token}
use Rattle.mc_types.specs.declared.ask.Op.{Op}
use Rattle.mc_types.specs.declared.ask.Op.TheVariants.{Get, Gat, Set, Add, Replace, Append, Prepend, Cas, Delete, Incr, Decr, Touch}
use Rattle.mc_types.specs.declared.ask.Ask.{Ask}
use Rattle.mc_types.specs.declared.answer.Code.{Code}
use Rattle.mc_types.specs.declared.answer.Code.TheVariants.{Hd, Va, En, Ns, Ex, Nf}
use Rattle.wire_answers.specs.declared.meta.told.Told.{Told}
use Rattle.wire_answers.specs.declared.meta.line.MetaLine.{MetaLine}
use Rattle.wire_answers.specs.declared.meta.line.MetaLine.TheVariants.{Done, Value, Other}
use Rattle.wire_answers.specs.Told.{none_told}
use Rattle.wire_answers.specs.Tokens.{with_words}

abbrev pub code_word : Code → List ℕ
code_word Hd = codes "HD"
code_word Va = codes "VA"
code_word En = codes "EN"
code_word Ns = codes "NS"
code_word Ex = codes "EX"
code_word Nf = codes "NF"

abbrev pub code_of : List ℕ → Option Code
code_of word =
    if bytes_eq word (codes "HD") then Some Hd
    else if bytes_eq word (codes "VA") then Some Va
    else if bytes_eq word (codes "EN") then Some En
    else if bytes_eq word (codes "NS") then Some Ns
    else if bytes_eq word (codes "EX") then Some Ex
    else if bytes_eq word (codes "NF") then Some Nf
    else None

-- the codes that answer an mg; VA where the data were asked for, HD where not
abbrev pub fetch_takes : Bool → Code → Bool
fetch_takes value Va = value
fetch_takes value Hd = not value
fetch_takes value En = true
fetch_takes value _ = false

-- the codes that answer an ms
abbrev pub store_takes : Code → Bool
store_takes Hd = true
store_takes Ns = true
store_takes Ex = true
store_takes Nf = true
store_takes _ = false

-- the codes that answer an md
abbrev pub delete_takes : Code → Bool
delete_takes Hd = true
delete_takes Nf = true
delete_takes Ex = true
delete_takes _ = false

-- the codes that answer an ma
abbrev pub count_takes : Bool → Code → Bool
count_takes value Va = value
count_takes value Hd = not value
count_takes value En = false
count_takes value _ = true

abbrev pub takes_code : Op → Bool → Code → Bool
takes_code Get value code = fetch_takes value code
takes_code Gat value code = fetch_takes value code
takes_code Set value code = store_takes code
takes_code Add value code = store_takes code
takes_code Replace value code = store_takes code
takes_code Append value code = store_takes code
takes_code Prepend value code = store_takes code
takes_code Cas value code = store_takes code
takes_code Delete value code = delete_takes code
takes_code Incr value code = count_takes value code
takes_code Decr value code = count_takes value code
takes_code Touch value code = false

abbrev pub is_count : Op → Bool
is_count Incr = true
is_count Decr = true
is_count _ = false

-- a token is there exactly where it was asked for
abbrev pub as_asked : Bool → Bool → Bool
as_asked true there = there
as_asked false there = not there

abbrev pub all_stand : List Token → Told → Bool
all_stand tokens told =
    as_asked (wants tokens LetterC) (is_some told.cas) && as_asked (wants tokens LetterF) (is_some told.flags)
    && as_asked (wants tokens LetterS) (is_some told.size) && as_asked (wants tokens LetterT) (is_some told.ttl)

-- a size that stands is the length of the data
abbrev pub is_size : Option ℕ → ℕ → Bool
is_size None len = true
is_size (Some size) len = size == len

abbrev pub done_said : Ask → Told → Option MetaLine
done_said ask told = if all_stand ask.tokens told then Some (Done told) else None

abbrev pub value_said : Ask → ℕ → Told → Option MetaLine
value_said ask len told =
    if all_stand ask.tokens told && is_size told.size len then Some (Value (record { told = told; len = len; is_number = is_count ask.op })) else None

-- the words after VA: the length of the data, and tokens
abbrev pub value_line_words : Ask → List (List ℕ) → Option MetaLine
value_line_words ask [] = None
value_line_words ask (len ∷ words) = option_and_then (λ n. option_and_then (value_said ask n) (with_words ask words none_told)) (number_below (data_limit + 1) len)

-- beside these codes the tokens are read and dropped
abbrev pub bare_said : Code → Option Told → Option MetaLine
bare_said code told = option_map (λ t. Other code) told

abbrev pub coded : Ask → List (List ℕ) → Code → Option MetaLine
coded ask words Hd = option_and_then (done_said ask) (with_words ask words none_told)
coded ask words Va = value_line_words ask words
coded ask words En = bare_said En (with_words ask words none_told)
coded ask words Ns = bare_said Ns (with_words ask words none_told)
coded ask words Ex = bare_said Ex (with_words ask words none_told)
coded ask words Nf = bare_said Nf (with_words ask words none_told)

-- what a line of this first word and these after it says; None where it says nothing to the ask
abbrev pub meta_said : Ask → List ℕ → List (List ℕ) → Option MetaLine
meta_said ask word words =
    option_and_then (λ code. if takes_code ask.op (wants ask.tokens LetterV) code then coded ask words code else None) (code_of word)
