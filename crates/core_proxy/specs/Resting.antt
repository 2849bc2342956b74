-- When nothing can be done for a client. Source: mcgate's own.
use Rattle.std.specs.Prelude.{◌≡◌, ℕ, ◌⊎◌, true, List, [], ◌∷◌, None}
use Rattle.indexmap.specs.IndexMap as map
use Rattle.core_client.specs.declared.client.Pending.{Pending}
use Rattle.core_commands.specs.declared.command.Command.{Command}
use Rattle.core_proxy.specs.declared.looking.Runnable.{Runnable}
use Rattle.core_commands.specs.declared.turns.Turn.TheVariants as turns
use Rattle.core_commands.specs.Ready.{IsCommandTurn}
pub use Rattle.core_commands.specs.Ready.{goes_on}

-- the command goes on at its turn, which is this
abbrev pub IsReady : ℕ → ℕ → {S : Type 0} → map.IndexMap ℕ Command S → Runnable → Type 0
IsReady client window commands ready = IsCommandTurn client window commands ready.number ready.turn × (goes_on ready.turn ≡ true)

-- the client's command of this number, if it is there, can't go on: its call is out, or its next call waits for its server
abbrev pub IsHeldUp : ℕ → ℕ → {S : Type 0} → map.IndexMap ℕ Command S → ℕ → Type 0
IsHeldUp client window commands number = IsCommandTurn client window commands number turns.Rests ⊎ IsCommandTurn client window commands number turns.Full

-- none of these commands whose reply hasn't come can go on
abbrev pub AreHeldUp : ℕ → ℕ → {S : Type 0} → map.IndexMap ℕ Command S → List Pending → Type 0
AreHeldUp client window commands [] = Unit {0}
AreHeldUp client window commands (pending ∷ rest) = (pending.reply ≡ None → IsHeldUp client window commands pending.number) × AreHeldUp client window commands rest

-- none of these commands whose reply hasn't come waits for its server
abbrev pub AreNotFull : ℕ → ℕ → {S : Type 0} → map.IndexMap ℕ Command S → List Pending → Type 0
AreNotFull client window commands [] = Unit {0}
AreNotFull client window commands (pending ∷ rest) = (pending.reply ≡ None → IsCommandTurn client window commands pending.number turns.Full → ⊥) × AreNotFull client window commands rest
