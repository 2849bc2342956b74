-- The law of scripts that were written: they are read back. Source: mcgate's own.
use Rattle.std.specs.Prelude.{◌≡◌, ℕ, ◌<◌, ◌<ℤ◌, ◌^◌, pos, List, [], ◌∷◌, ◌++◌, All, false, None, Ok}
use Rattle.mc_types.specs.KeyText.{IsKey}
use Rattle.script_events.specs.Scripted.{Scripted, Piece, Add, Result, Hold, Fail, At, Now, Moment, Manner, Before, After, Junk, Cut, Loss, Lose, Restart}
use Rattle.route_json.specs.Configuration.{Configuration}
use Rattle.script_events.specs.Lines.{is_line_end}
use Rattle.script_events.specs.FirstLine.{first_said}
use Rattle.script_events.specs.Told.{Told, events_said, text_told, told_over}
use Rattle.script_events.specs.ScriptLines.{script_lines}

-- bytes are below 256
abbrev pub AreBytes : List ℕ → Type 0
AreBytes bytes = All (λ b. b < 256) bytes

-- a server's number has 32 bits, and the key is one
abbrev pub CanBeLost : Loss → Type 0
CanBeLost (Lose server key) = (server < 2 ^ 32) × IsKey key × AreBytes key
CanBeLost (Restart server) = server < 2 ^ 32

-- a call's turn is counted from 1, in 32 bits
abbrev pub IsTurn : ℕ → Type 0
IsTurn turn = (0 < turn) × (turn < 2 ^ 32)

-- a count of an answer's bytes has 32 bits
abbrev pub IsManner : Manner → Type 0
IsManner Before = Unit {0}
IsManner After = Unit {0}
IsManner Junk = Unit {0}
IsManner (Cut count) = count < 2 ^ 32

-- an event that a line can say: its client is below 64, its turn is counted from 1, its time isn't below 0, and its numbers have
-- their widths
abbrev pub HasLine : Scripted → Type 0
HasLine (Piece client bytes) = (client < 64) × AreBytes bytes
HasLine (Add client bytes) = (client < 64) × AreBytes bytes
HasLine (Result server) = server < 2 ^ 32
HasLine (Hold server key content) = (server < 2 ^ 32) × IsKey key × AreBytes key × AreBytes content
HasLine (Fail turn manner) = IsTurn turn × IsManner manner
HasLine (At turn loss) = IsTurn turn × CanBeLost loss
HasLine (Now loss) = CanBeLost loss
HasLine (Moment moment) = (n : ℕ) × (n < 2 ^ 63) × (moment ≡ pos n)

-- each of these events has a line
abbrev pub HaveLines : List Scripted → Type 0
HaveLines [] = Unit {0}
HaveLines (event ∷ events) = HasLine event × HaveLines events

-- the numbers and bytes of an event have the widths of their types
abbrev pub LossHasWidths : Loss → Type 0
LossHasWidths (Lose server key) = (server < 2 ^ 32) × AreBytes key
LossHasWidths (Restart server) = server < 2 ^ 32

abbrev pub HasWidths : Scripted → Type 0
HasWidths (Piece client bytes) = AreBytes bytes
HasWidths (Add client bytes) = AreBytes bytes
HasWidths (Result server) = server < 2 ^ 32
HasWidths (Hold server key content) = (server < 2 ^ 32) × AreBytes key × AreBytes content
HasWidths (Fail turn manner) = (turn < 2 ^ 32) × IsManner manner
HasWidths (At turn loss) = (turn < 2 ^ 32) × LossHasWidths loss
HasWidths (Now loss) = LossHasWidths loss
HasWidths (Moment moment) = moment <ℤ pos (2 ^ 63)

-- a text that was read says this configuration and these events, each of its lines can be read, and none loads anything
pub record SaysAll (t : Told) (config : Configuration) (events : List Scripted) : Type 0 where
  pub configuration : t.configuration ≡ config
  pub said : events_said t ≡ events
  pub whole : t.unreadable ≡ None
  pub nothing_loaded : t.loads ≡ []

-- the lines of these events say them, over a configuration from elsewhere and after each first line that says one
pub record AreReadBack (events : List Scripted) : Type 0 where
  pub over : (config : Configuration) → SaysAll (told_over config (script_lines events)) config events
  pub after : (line : List ℕ) (config : Configuration) → All (λ b. is_line_end b ≡ false) line → first_said line ≡ Ok config
      → (t : Told) × (text_told (line ++ 10 ∷ script_lines events) ≡ Ok t) × SaysAll t config events

-- what is written of a script is read as that script
abbrev pub ScriptsAreReadBack : Type 0
ScriptsAreReadBack = (events : List Scripted) → HaveLines events → AreReadBack events
