-- What is wrong with a line, in words. Source: mcgate's own.
use Rattle.std.specs.Prelude.{ℕ, List, codes, decimal, ◌++◌}
use Rattle.text_words.specs.Escapes.{escaped}
use Rattle.mc_types.specs.declared.key.KeyFault.{KeyFault}
use Rattle.mc_types.specs.declared.key.KeyFault.TheVariants as keys
use Rattle.fault_words.specs.declared.script.trouble.Form.{Form}
use Rattle.fault_words.specs.declared.script.trouble.Form.TheVariants as forms
use Rattle.fault_words.specs.declared.script.trouble.Number.{Number}
use Rattle.fault_words.specs.declared.script.trouble.Number.TheVariants as numbers
use Rattle.fault_words.specs.declared.script.trouble.Trouble.{Trouble}
use Rattle.fault_words.specs.declared.script.trouble.Trouble.TheVariants as t
use Rattle.fault_words.specs.declared.script.misfit.Misfit.{Misfit}
use Rattle.fault_words.specs.declared.script.misfit.Misfit.TheVariants as m
use Rattle.fault_words.specs.declared.script.finding.Wrong.{Wrong}
use Rattle.fault_words.specs.declared.script.finding.Wrong.TheVariants as w
use Rattle.fault_words.specs.declared.script.finding.BadLine.{BadLine}

abbrev pub form_words : Form → List ℕ
form_words forms.Piece = codes "wanted: > C TEXT"
form_words forms.Add = codes "wanted: + C TEXT"
form_words forms.Result = codes "wanted: result S"
form_words forms.Hold = codes "wanted: hold S KEY TEXT"
form_words forms.Fail = codes "wanted: fail K before, after, cut B or junk"
form_words forms.Lose = codes "wanted: lose S KEY"
form_words forms.Restart = codes "wanted: restart S"
form_words forms.At = codes "wanted: at K lose S KEY, or at K restart S"
form_words forms.Moment = codes "wanted: moment N"
form_words forms.Reload = codes "wanted: reload JSON"

abbrev pub number_words : Number → List ℕ
number_words numbers.Client = codes "no client, 0 to 63: "
number_words numbers.Server = codes "no number of a server: "
number_words numbers.Turn = codes "no number of a call, 1 to 4294967295: "
number_words numbers.Count = codes "no count of bytes, 0 to 4294967295: "
number_words numbers.Moment = codes "no time, 0 to 9223372036854775807: "

abbrev pub key_words : KeyFault → List ℕ
key_words keys.Empty = codes "a key is empty"
key_words keys.TooLong = codes "a key is longer than 250 bytes"
key_words (keys.BadByte at) = codes "a key has a space or a control character"

abbrev pub trouble_words : Trouble → List ℕ
trouble_words (t.NoEvent word) = codes "no event has this word: " ++ escaped word.now
trouble_words (t.Wants form) = form_words form
trouble_words (t.NoNumber kind word) = number_words kind ++ escaped word.now
trouble_words t.WantsCount = codes "wanted: fail K cut B"
trouble_words t.NoEscape = codes "a backslash that begins none of \\r, \\n, \\\\ and \\xHH"
trouble_words (t.NoKey fault) = key_words fault
trouble_words (t.NoManner word) = codes "neither before, after, cut B nor junk: " ++ escaped word.now
trouble_words (t.NoLoss word) = codes "neither lose nor restart: " ++ escaped word.now
trouble_words t.NoConfiguration = codes "reload wants a configuration: mcgate check says what is wrong with it"

abbrev pub misfit_words : Misfit → List ℕ
misfit_words (m.NoClient client) = codes "no client, 0 to 63: " ++ decimal client
misfit_words (m.NoServer server) = codes "no such server: " ++ decimal server
misfit_words m.TurnZero = codes "calls are counted from 1"
misfit_words m.BeforeZero = codes "a time before 0"
misfit_words m.TooMuch = codes "all pieces together exceed 16777216 bytes"
misfit_words m.AddsTooMuch = codes "a client added more than 524288 bytes since the last >"
misfit_words m.TooLong = codes "more than 1048576 bytes are held"
misfit_words m.TooLate = codes "hold after a piece, a lose or a restart"

abbrev pub wrong_words : Wrong → List ℕ
wrong_words w.Pool = codes "wanted: pool N, 1 to 1024"
wrong_words (w.Unread trouble) = trouble_words trouble
wrong_words (w.Unfit misfit) = misfit_words misfit

-- the line's number, and what is wrong with it
abbrev pub bad_line_words : BadLine → List ℕ
bad_line_words b = codes "line " ++ decimal b.number ++ codes ": " ++ wrong_words b.wrong
