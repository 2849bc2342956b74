-- What a line of a script says. Source: mcgate's own.
use Rattle.mc_types.specs.declared.limits.TheConstants.{SCRIPT_CLIENTS}
use Rattle.std.specs.Prelude.{ℕ, ◌^◌, pos, List, codes, ◌==◌, if◌then◌else◌, Option, Some, None, option_and_then}
use Rattle.std.specs.Result.{result_ok}
use Rattle.std.specs.Str.{bytes_eq}
use Rattle.text_words.specs.Number.{number_below}
use Rattle.mc_types.specs.Fault.{read_key}
use Rattle.script_events.specs.Scripted.{Scripted, Piece, Add, Result, Fail, Hold, At, Now, Moment, Manner, Before, After, Junk, Cut, Loss, Lose, Restart}
use Rattle.script_events.specs.Escapes.{unescaped}
use Rattle.script_events.specs.Lines.{cut}

infixl 10 ◌>>=◌
abbrev pub ◌>>=◌ : {A B : Type 0} → Option A → (A → Option B) → Option B
o >>= f = option_and_then f o

-- a number that isn't 0
abbrev pub nonzero : ℕ → Option ℕ
nonzero n = if n == 0 then None else Some n

-- a client of a script
abbrev pub client_said : List ℕ → Option ℕ
client_said word = number_below SCRIPT_CLIENTS word

-- a server
abbrev pub server_said : List ℕ → Option ℕ
server_said word = number_below (2 ^ 32) word

-- a turn: 1..=4294967295
abbrev pub turn_said : List ℕ → Option ℕ
turn_said word = do
  n ← number_below (2 ^ 32) word
  nonzero n

-- a key, in the escapes
abbrev pub key_said : List ℕ → Option (List ℕ)
key_said text = do
  bytes ← unescaped text
  result_ok (read_key bytes)

-- a count of bytes: 0..=4294967295
abbrev pub count_said : List ℕ → Option ℕ
count_said word = number_below (2 ^ 32) word

-- an answer of which only the first bytes come: `cut B`
abbrev pub cut_said : List ℕ → Option Manner
cut_said text = do
  parts ← cut text
  count ← if bytes_eq parts.word (codes "cut") then count_said parts.rest else None
  Some (Cut count)

-- the manner of a failure: `before`, `after`, `junk`, `cut B`
abbrev pub manner_said : List ℕ → Option Manner
manner_said text =
    if bytes_eq text (codes "before") then Some Before
    else if bytes_eq text (codes "after") then Some After
    else if bytes_eq text (codes "junk") then Some Junk
    else cut_said text

-- a client, and the bytes that it sends: C TEXT
abbrev pub sent_said : List ℕ → Option (ℕ × List ℕ)
sent_said text = do
  parts ← cut text
  client ← client_said parts.word
  bytes ← unescaped parts.rest
  Some (client, bytes)

-- after `> `: C TEXT
abbrev pub piece_said : List ℕ → Option Scripted
piece_said text = do
  sent ← sent_said text
  Some (Piece sent.0 sent.1)

-- after `+ `: C TEXT
abbrev pub add_said : List ℕ → Option Scripted
add_said text = do
  sent ← sent_said text
  Some (Add sent.0 sent.1)

-- after `result `: S
abbrev pub result_said : List ℕ → Option Scripted
result_said text = do
  server ← server_said text
  Some (Result server)

-- after `hold `: S KEY TEXT
abbrev pub hold_said : List ℕ → Option Scripted
hold_said text = do
  parts ← cut text
  server ← server_said parts.word
  held ← cut parts.rest
  key ← key_said held.word
  content ← unescaped held.rest
  Some (Hold server key content)

-- after `fail `: K before, K after, K cut B, K junk
abbrev pub fail_said : List ℕ → Option Scripted
fail_said text = do
  parts ← cut text
  turn ← turn_said parts.word
  manner ← manner_said parts.rest
  Some (Fail turn manner)

-- a lost item: S KEY
abbrev pub item_loss_said : List ℕ → Option Loss
item_loss_said text = do
  parts ← cut text
  server ← server_said parts.word
  key ← key_said parts.rest
  Some (Lose server key)

-- a restart: S
abbrev pub restart_loss_said : List ℕ → Option Loss
restart_loss_said text = do
  server ← server_said text
  Some (Restart server)

-- what is lost: `lose S KEY`, `restart S`
abbrev pub loss_said : List ℕ → List ℕ → Option Loss
loss_said word text = if bytes_eq word (codes "lose") then item_loss_said text else if bytes_eq word (codes "restart") then restart_loss_said text else None

-- after `lose `: S KEY
abbrev pub lose_said : List ℕ → Option Scripted
lose_said text = do
  loss ← item_loss_said text
  Some (Now loss)

-- after `restart `: S
abbrev pub restart_said : List ℕ → Option Scripted
restart_said text = do
  loss ← restart_loss_said text
  Some (Now loss)

-- after `at `: K lose S KEY, K restart S
abbrev pub at_said : List ℕ → Option Scripted
at_said text = do
  parts ← cut text
  turn ← turn_said parts.word
  said ← cut parts.rest
  loss ← loss_said said.word said.rest
  Some (At turn loss)

-- after `moment `: N, 0..=9223372036854775807
abbrev pub moment_said : List ℕ → Option Scripted
moment_said text = do
  n ← number_below (2 ^ 63) text
  Some (Moment (pos n))

-- what a line of this first word says, by what stands after the word
abbrev pub said_after : List ℕ → List ℕ → Option Scripted
said_after word text =
    if bytes_eq word (codes ">") then piece_said text
    else if bytes_eq word (codes "+") then add_said text
    else if bytes_eq word (codes "result") then result_said text
    else if bytes_eq word (codes "hold") then hold_said text
    else if bytes_eq word (codes "fail") then fail_said text
    else if bytes_eq word (codes "lose") then lose_said text
    else if bytes_eq word (codes "restart") then restart_said text
    else if bytes_eq word (codes "at") then at_said text
    else if bytes_eq word (codes "moment") then moment_said text
    else None

-- the event that a line says
abbrev pub event_said : List ℕ → Option Scripted
event_said line = do
  parts ← cut line
  said_after parts.word parts.rest
