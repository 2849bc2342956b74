-- What a server is asked in each dialect, and what its answers say. Source: mcgate's own; that a server is asked for classic gets in the meta dialect is the form of `wire_stream::meta_gets`.
use Rattle.std.specs.Prelude.{◌≡◌, ℕ, ◌+◌, ◌<◌, ◌≤◌, Bool, true, false, List, [], ◌++◌, Option, None, Some, codes, length, take}
use Rattle.mc_types.specs.declared.ask.Ask.{Ask}
use Rattle.mc_types.specs.declared.ask.Dialect.{Dialect}
use Rattle.mc_types.specs.declared.ask.Dialect.TheVariants.{Classic, Meta}
use Rattle.mc_types.specs.declared.answer.Answer.{Answer}
use Rattle.wire_answers.specs.Reading.{Spells, IsCut}
use Rattle.wire_stream.specs.Form.{in_meta}
use Rattle.wire_stream.specs.Learning.{IsDialectLine}
use Rattle.wire_stream.specs.Reading.{SpellsInMeta}
use Rattle.wire_stream.specs.declared.meta_gets.dialect.DialectRead.{DialectRead}
use Rattle.wire_stream.specs.declared.meta_gets.dialect.DialectRead.TheVariants as reads
use Rattle.serve_links.specs.declared.settings.Greeting.{Greeting}
use Rattle.serve_links.specs.declared.settings.ServerDialect.{ServerDialect}
use Rattle.serve_links.specs.declared.settings.ServerDialect.TheVariants as asks

-- what a server is asked: in the classic dialect each ask as it is, in the meta dialect a classic get in its meta form
abbrev pub asked_in : Dialect → Ask → Ask
asked_in Classic ask = ask
asked_in Meta ask = in_meta ask

-- the first so many bytes say this to the ask, as it was asked in this dialect
abbrev pub SpellsIn : Dialect → Ask → List ℕ → Answer → ℕ → Type 0
SpellsIn Classic ask bytes answer used = Spells ask bytes answer used
SpellsIn Meta ask bytes answer used = SpellsInMeta ask bytes answer used

-- no answer to it begins with these bytes, whatever follows them
abbrev pub IsForeignIn : Dialect → Ask → List ℕ → Type 0
IsForeignIn dialect ask bytes = (more : List ℕ) (answer : Answer) (used : ℕ) → ¬ SpellsIn dialect ask (bytes ++ more) answer used

-- the bytes are cut before the end of an answer to it
abbrev pub IsCutIn : Dialect → Ask → List ℕ → Type 0
IsCutIn dialect ask bytes = IsCut (asked_in dialect ask) bytes

-- the bytes are the line by which a server tells this dialect, and nothing else
abbrev pub IsGreeting : Dialect → List ℕ → Type 0
IsGreeting dialect bytes = IsDialectLine bytes dialect (length bytes)

-- how a server tells the dialect in which it is asked from now on: by that line where it is asked for it, else by nothing
abbrev pub TellsIn : ServerDialect → Dialect → List ℕ → Type 0
TellsIn asks.Auto dialect bytes = IsGreeting dialect bytes
TellsIn asks.Classic dialect bytes = (bytes ≡ []) × (dialect ≡ Classic)
TellsIn asks.Meta dialect bytes = (bytes ≡ []) × (dialect ≡ Meta)

-- what it says once it has emptied itself, where it is asked to
abbrev pub flushed_of : Bool → List ℕ
flushed_of true = codes "OK\r\n"
flushed_of false = []

-- the bytes are all that it says to what it is asked first
abbrev pub Greets : Greeting → Dialect → List ℕ → Type 0
Greets greeting dialect bytes = (told : List ℕ) × (bytes ≡ flushed_of greeting.flushes ++ told) × TellsIn greeting.dialect dialect told

-- nothing of that begins with these bytes, whatever follows them: neither a dialect that is told so, nor all that is said
abbrev pub TellsNoDialect : ServerDialect → List ℕ → Type 0
TellsNoDialect asked bytes = (more : List ℕ) (dialect : Dialect) (told rest : List ℕ) → bytes ++ more ≡ told ++ rest → ¬ TellsIn asked dialect told

abbrev pub GreetsNone : Greeting → List ℕ → Type 0
GreetsNone greeting bytes = (more : List ℕ) (dialect : Dialect) (said rest : List ℕ) → bytes ++ more ≡ said ++ rest → ¬ Greets greeting dialect said

-- the bytes are all that it says to what it was asked first, which is still to come
abbrev pub GreetsAwaited : Option Greeting → Dialect → List ℕ → Type 0
GreetsAwaited None dialect bytes = ⊥
GreetsAwaited (Some greeting) dialect bytes = Greets greeting dialect bytes

-- whether it is still to say that it has emptied itself
abbrev pub awaits_flush : Option Greeting → Bool
awaits_flush None = false
awaits_flush (Some greeting) = greeting.flushes

-- where something is told, the first so many bytes tell it; what is foreign is no begin of it
abbrev pub ReadsDialect : ServerDialect → List ℕ → DialectRead → Type 0
ReadsDialect asked bytes (reads.Told dialect used) = (used ≤ length bytes) × TellsIn asked dialect (take used bytes)
ReadsDialect asked bytes reads.More = Unit {0}
ReadsDialect asked bytes reads.Neither = TellsNoDialect asked bytes

abbrev pub ReadsGreeting : Greeting → List ℕ → DialectRead → Type 0
ReadsGreeting greeting bytes (reads.Told dialect used) = (used ≤ length bytes) × Greets greeting dialect (take used bytes)
ReadsGreeting greeting bytes reads.More = Unit {0}
ReadsGreeting greeting bytes reads.Neither = GreetsNone greeting bytes

-- it was told in fewer bytes than these
abbrev pub IsUsedBelow : ℕ → DialectRead → Type 0
IsUsedBelow most (reads.Told dialect used) = used < most
IsUsedBelow most reads.More = Unit {0}
IsUsedBelow most reads.Neither = Unit {0}

-- a dialect was told in four bytes more
abbrev pub four_more : DialectRead → DialectRead
four_more (reads.Told dialect used) = reads.Told dialect (used + 4)
four_more reads.More = reads.More
four_more reads.Neither = reads.Neither
