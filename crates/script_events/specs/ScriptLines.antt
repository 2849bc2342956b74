-- The lines of a script's events. Source: mcgate's own.
use Rattle.std.specs.Prelude.{ℕ, List, ◌++◌, codes, decimal, flat_map}
use Rattle.std.specs.Fmt.{signed_decimal}
use Rattle.text_words.specs.Escapes.{escaped}
use Rattle.script_events.specs.Scripted.{Scripted, Piece, Add, Result, Hold, Fail, At, Now, Moment, Manner, Before, After, Junk, Cut, Loss, Lose, Restart}

-- `before`, `after`, `junk`, `cut B`
abbrev pub manner_text : Manner → List ℕ
manner_text Before = codes "before"
manner_text After = codes "after"
manner_text Junk = codes "junk"
manner_text (Cut count) = codes "cut " ++ decimal count

abbrev pub manner_line : Manner → List ℕ
manner_line manner = manner_text manner ++ codes "\n"

-- what is lost: `lose S KEY`, `restart S`
abbrev pub loss_line : Loss → List ℕ
loss_line (Lose server key) = codes "lose " ++ decimal server ++ codes " " ++ escaped key ++ codes "\n"
loss_line (Restart server) = codes "restart " ++ decimal server ++ codes "\n"

-- `> C TEXT`, `+ C TEXT`, `result S`, `hold S KEY TEXT`, `fail K` and a manner, `at K` and a loss, a loss, `moment N`
abbrev pub event_line : Scripted → List ℕ
event_line (Piece client bytes) = codes "> " ++ decimal client ++ codes " " ++ escaped bytes ++ codes "\n"
event_line (Add client bytes) = codes "+ " ++ decimal client ++ codes " " ++ escaped bytes ++ codes "\n"
event_line (Result server) = codes "result " ++ decimal server ++ codes "\n"
event_line (Hold server key content) = codes "hold " ++ decimal server ++ codes " " ++ escaped key ++ codes " " ++ escaped content ++ codes "\n"
event_line (Fail turn manner) = codes "fail " ++ decimal turn ++ codes " " ++ manner_line manner
event_line (At turn loss) = codes "at " ++ decimal turn ++ codes " " ++ loss_line loss
event_line (Now loss) = loss_line loss
event_line (Moment moment) = codes "moment " ++ signed_decimal moment ++ codes "\n"

-- one line after another
abbrev pub script_lines : List Scripted → List ℕ
script_lines events = flat_map event_line events
