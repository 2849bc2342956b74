-- Servers that are emptied before they are first called, as by a flush: what they held before the run doesn't matter. Source: mcgate's own.
use Rattle.std.specs.Prelude.{◌≡◌, ℕ, Bool, true, List, [], ◌∷◌, Option, None, ◌⊎◌, if◌then◌else◌}
use Rattle.mc_types.specs.Items.{Item}
use Rattle.fresh_runs.specs.Run.{Event, Begins, Calls, Replies, Breaks, Turns, Restarts, LosesOnly, Run, CopiesBar, AreAlone, IsFresh, IsFreshByNumber}
use Rattle.mc_types.specs.declared.ask.Ask.{Ask}
use Rattle.mc_types.specs.declared.answer.Answer.{Answer}
use Rattle.fresh_runs.specs.Calls.{Call}
use Rattle.fresh_runs.specs.Untouched.{IsCoveredOrUntouched}

-- the server was emptied
abbrev pub WasEmptied : List Event → ℕ → Type 0
WasEmptied [] s = ⊥
WasEmptied (Begins number ask ∷ past) s = WasEmptied past s
WasEmptied (Calls number server ask origin end ∷ past) s = WasEmptied past s
WasEmptied (Replies number key reply from ∷ past) s = WasEmptied past s
WasEmptied (Breaks number ∷ past) s = WasEmptied past s
WasEmptied (Turns server key turned ∷ past) s = WasEmptied past s
WasEmptied (Restarts server ∷ past) s = (server ≡ s) ⊎ WasEmptied past s

module _ (emptied : ℕ → Bool) where
  -- no call asks such a server before it was emptied
  abbrev pub AreEmptiedFirst : List Event → Type 0
  AreEmptiedFirst [] = Unit {0}
  AreEmptiedFirst (Begins number ask ∷ past) = AreEmptiedFirst past
  AreEmptiedFirst (Calls number server ask origin end ∷ past) = (emptied server ≡ true → WasEmptied past server) × AreEmptiedFirst past
  AreEmptiedFirst (Replies number key reply from ∷ past) = AreEmptiedFirst past
  AreEmptiedFirst (Breaks number ∷ past) = AreEmptiedFirst past
  AreEmptiedFirst (Turns server key turned ∷ past) = AreEmptiedFirst past
  AreEmptiedFirst (Restarts server ∷ past) = AreEmptiedFirst past

  -- what was held before the run, with nothing on these servers
  abbrev pub emptied_opening : (ℕ → List ℕ → Option Item) → ℕ → List ℕ → Option Item
  emptied_opening opening s key = if emptied s then None else opening s key

module _ (words : ℕ → Ask → List Call → Answer → Option ℕ → Type 0) (Bars : ℕ → Ask → ℕ → Ask → Type 0) (opening : ℕ → List ℕ → Option Item) where
  -- servers that are emptied before their first call count as if they had held nothing before the run
  abbrev pub EmptiedIsFresh : Type 0
  EmptiedIsFresh =
      (emptied : ℕ → Bool) → IsCoveredOrUntouched words (emptied_opening emptied opening)
      → (events : List Event) → AreEmptiedFirst emptied events → LosesOnly events → Run words Bars opening events
      → (CopiesBar words Bars → IsFresh opening events) × (AreAlone Bars → IsFreshByNumber opening events)
