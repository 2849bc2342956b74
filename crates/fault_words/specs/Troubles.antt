-- Why a line of a script says no event. Source: mcgate's own.
use Rattle.std.specs.Prelude.{◌≡◌, ℕ, ◌^◌, List, codes, if◌then◌else◌, Option, Some, None, Result, Ok, Err}
use Rattle.std.specs.Str.{bytes_eq}
use Rattle.text_words.specs.Number.{number_below}
use Rattle.mc_types.specs.Fault.{read_key}
use Rattle.mc_types.specs.declared.key.KeyFault.{KeyFault}
use Rattle.script_events.specs.Escapes.{unescaped}
use Rattle.script_events.specs.Lines.{cut, Parts}
use Rattle.script_events.specs.Events.{client_said, server_said, turn_said, count_said}
use Rattle.fault_words.specs.declared.script.trouble.Form.{Form}
use Rattle.fault_words.specs.declared.script.trouble.Form.TheVariants as forms
use Rattle.fault_words.specs.declared.script.trouble.Number.{Number}
use Rattle.fault_words.specs.declared.script.trouble.Number.TheVariants as numbers
use Rattle.fault_words.specs.declared.script.trouble.Trouble as told
use Rattle.fault_words.specs.declared.script.trouble.Trouble.TheVariants as t
use Rattle.fault_words.specs.declared.script.trouble.Halt.{Halt}
use Rattle.fault_words.specs.declared.script.trouble.Halt.TheVariants as halts

-- the first part of a line that can't be read
pub data Trouble : Type 0 where
  NoEvent NoManner NoLoss : List ℕ → Trouble
  Wants : Form → Trouble
  NoNumber : Number → List ℕ → Trouble
  WantsCount NoEscape NoConfiguration : Trouble
  NoKey : KeyFault → Trouble

-- the words of the events, and of a reload
abbrev pub form_of : List ℕ → Option Form
form_of word =
    if bytes_eq word (codes ">") then Some forms.Piece
    else if bytes_eq word (codes "+") then Some forms.Add
    else if bytes_eq word (codes "result") then Some forms.Result
    else if bytes_eq word (codes "hold") then Some forms.Hold
    else if bytes_eq word (codes "fail") then Some forms.Fail
    else if bytes_eq word (codes "lose") then Some forms.Lose
    else if bytes_eq word (codes "restart") then Some forms.Restart
    else if bytes_eq word (codes "at") then Some forms.At
    else if bytes_eq word (codes "moment") then Some forms.Moment
    else if bytes_eq word (codes "reload") then Some forms.Reload
    else None

-- the trouble where nothing was read
abbrev pub unless : {A : Type 0} → Option A → Trouble → Option Trouble
unless None trouble = Some trouble
unless (Some a) trouble = None

-- the first of two troubles
abbrev pub first_trouble : Option Trouble → Option Trouble → Option Trouble
first_trouble None other = other
first_trouble (Some trouble) other = Some trouble

-- of a text cut at its first space; where it has none the form wants more words
abbrev pub in_parts : Form → (Parts → Option Trouble) → Option Parts → Option Trouble
in_parts form trouble None = Some (Wants form)
in_parts form trouble (Some parts) = trouble parts

-- the number that a word writes of a kind
abbrev pub number_said : Number → List ℕ → Option ℕ
number_said numbers.Client word = client_said word
number_said numbers.Server word = server_said word
number_said numbers.Turn word = turn_said word
number_said numbers.Count word = count_said word
number_said numbers.Moment word = number_below (2 ^ 63) word

abbrev pub number_trouble : Number → List ℕ → Option Trouble
number_trouble kind word = unless (number_said kind word) (NoNumber kind word)

abbrev pub text_trouble : List ℕ → Option Trouble
text_trouble text = unless (unescaped text) NoEscape

abbrev pub key_bytes_trouble : Result (List ℕ) KeyFault → Option Trouble
key_bytes_trouble (Ok key) = None
key_bytes_trouble (Err fault) = Some (NoKey fault)

abbrev pub spelled_key_trouble : Option (List ℕ) → Option Trouble
spelled_key_trouble None = Some NoEscape
spelled_key_trouble (Some bytes) = key_bytes_trouble (read_key bytes)

abbrev pub key_trouble : List ℕ → Option Trouble
key_trouble text = spelled_key_trouble (unescaped text)

-- these words are the manner of a failure: of one word, or `cut B`
abbrev pub cut_trouble : List ℕ → Option Parts → Option Trouble
cut_trouble text None = if bytes_eq text (codes "cut") then Some WantsCount else Some (NoManner text)
cut_trouble text (Some parts) = if bytes_eq parts.word (codes "cut") then number_trouble numbers.Count parts.rest else Some (NoManner text)

abbrev pub manner_trouble : List ℕ → Option Trouble
manner_trouble text =
    if bytes_eq text (codes "before") then None
    else if bytes_eq text (codes "after") then None
    else if bytes_eq text (codes "junk") then None
    else cut_trouble text (cut text)

-- after `> ` and `+ `: C TEXT
abbrev pub sent_trouble : Form → List ℕ → Option Trouble
sent_trouble form text = in_parts form (λ p. first_trouble (number_trouble numbers.Client p.word) (text_trouble p.rest)) (cut text)

-- after `hold `: S KEY TEXT
abbrev pub held_trouble : List ℕ → Option Trouble
held_trouble text = in_parts forms.Hold (λ p. first_trouble (key_trouble p.word) (text_trouble p.rest)) (cut text)

abbrev pub hold_trouble : List ℕ → Option Trouble
hold_trouble text = in_parts forms.Hold (λ p. first_trouble (number_trouble numbers.Server p.word) (held_trouble p.rest)) (cut text)

-- after `fail `: K before, K after, K cut B, K junk
abbrev pub fail_trouble : List ℕ → Option Trouble
fail_trouble text = in_parts forms.Fail (λ p. first_trouble (number_trouble numbers.Turn p.word) (manner_trouble p.rest)) (cut text)

-- after `lose `: S KEY
abbrev pub item_loss_trouble : List ℕ → Option Trouble
item_loss_trouble text = in_parts forms.Lose (λ p. first_trouble (number_trouble numbers.Server p.word) (key_trouble p.rest)) (cut text)

-- what is lost: `lose S KEY`, `restart S`
abbrev pub loss_trouble : List ℕ → List ℕ → Option Trouble
loss_trouble word text =
    if bytes_eq word (codes "lose") then item_loss_trouble text
    else if bytes_eq word (codes "restart") then number_trouble numbers.Server text
    else Some (NoLoss word)

-- after `at `: K lose S KEY, K restart S
abbrev pub lost_trouble : List ℕ → Option Trouble
lost_trouble text = in_parts forms.At (λ p. loss_trouble p.word p.rest) (cut text)

abbrev pub at_trouble : List ℕ → Option Trouble
at_trouble text = in_parts forms.At (λ p. first_trouble (number_trouble numbers.Turn p.word) (lost_trouble p.rest)) (cut text)

-- after the word of a line; what `reload JSON` loads is no event, so its trouble counts only where the JSON is no configuration
abbrev pub form_trouble : Form → List ℕ → Option Trouble
form_trouble forms.Piece text = sent_trouble forms.Piece text
form_trouble forms.Add text = sent_trouble forms.Add text
form_trouble forms.Result text = number_trouble numbers.Server text
form_trouble forms.Hold text = hold_trouble text
form_trouble forms.Fail text = fail_trouble text
form_trouble forms.Lose text = item_loss_trouble text
form_trouble forms.Restart text = number_trouble numbers.Server text
form_trouble forms.At text = at_trouble text
form_trouble forms.Moment text = number_trouble numbers.Moment text
form_trouble forms.Reload text = Some NoConfiguration

abbrev pub named_trouble : Option Form → List ℕ → List ℕ → Option Trouble
named_trouble None word text = Some (NoEvent word)
named_trouble (Some form) word text = form_trouble form text

-- a line of one word alone
abbrev pub alone_trouble : Option Form → List ℕ → Trouble
alone_trouble None word = NoEvent word
alone_trouble (Some form) word = Wants form

abbrev pub line_trouble : List ℕ → Option Parts → Option Trouble
line_trouble line None = Some (alone_trouble (form_of line) line)
line_trouble line (Some parts) = named_trouble (form_of parts.word) parts.word parts.rest

-- why a line says no event; none where it says one
abbrev pub trouble_in : List ℕ → Option Trouble
trouble_in line = line_trouble line (cut line)

-- what is seen of a trouble that is told
abbrev pub trouble_of : told.Trouble → Trouble
trouble_of (t.NoEvent word) = NoEvent word.now
trouble_of (t.Wants form) = Wants form
trouble_of (t.NoNumber kind word) = NoNumber kind word.now
trouble_of t.WantsCount = WantsCount
trouble_of t.NoEscape = NoEscape
trouble_of (t.NoKey fault) = NoKey fault
trouble_of (t.NoManner word) = NoManner word.now
trouble_of (t.NoLoss word) = NoLoss word.now
trouble_of t.NoConfiguration = NoConfiguration

-- what a check of a part answers, by its trouble
abbrev pub Finds : {A : Type 0} → Option Trouble → Result A Halt → Type 0
Finds trouble (Ok done) = trouble ≡ None
Finds trouble (Err (halts.Trouble found)) = trouble ≡ Some (trouble_of found)
Finds trouble (Err halts.NoMemory) = Unit {0}
