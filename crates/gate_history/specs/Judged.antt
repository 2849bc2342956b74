-- Whether a configuration may follow generations, and what is wrong with a text after them. Source: mcgate's own.
use Rattle.std.specs.Prelude.{◌≡◌, ◌≢◌, ℕ, ◌+◌, ◌≤◌, Bool, List, [], ◌∷◌, ◌++◌, length, Result, MatchResult, ◌⊎◌}
use Rattle.serde_json.specs.Read.{read}
use Rattle.route_json.specs.Configs.{read_after}
use Rattle.route_json.specs.Configuration.{Configuration}
use Rattle.route_json.specs.Fault.{Fails, fault_of}
use Rattle.gate_growth.specs.Grown.{AreSoundSince}
use Rattle.gate_growth.specs.Pages.{AreOpened}
use Rattle.gate_growth.specs.Ledgers.{IsUnsoundFor}
use Rattle.gate_growth.specs.declared.ledger.page.Beginning.{Beginning}
use Rattle.gate_growth.specs.declared.ledger.unsound.Unsound.{Unsound}
use Rattle.gate_history.specs.declared.generation.Generation.{Generation}
use Rattle.gate_history.specs.declared.fault.HistoryFault.{HistoryFault}
use Rattle.gate_history.specs.declared.fault.HistoryFault.TheVariants as faults
use Rattle.gate_history.specs.declared.lines.BadLine.TheVariants as lines
use Rattle.gate_history.specs.Spelled.{generation_line}
use Rattle.gate_history.specs.Lines.{Lacks, IsCutAt, IsBadLine}
use Rattle.gate_history.specs.Histories.{generation_trees, count_after, servers_after, AreOpenedBy, Says, IsHistoryOf}

-- the most generations that have a number
abbrev pub most_lines : ℕ
most_lines = 4294967295

-- the trees of the generations are sound, if servers began as they say
abbrev pub AreSoundBy : List Generation → Type 0
AreSoundBy gs = (arbitrary : ℕ → Bool) → AreOpenedBy arbitrary 0 gs → AreSoundSince arbitrary (generation_trees gs)

-- servers began as the generations and the next one say
abbrev pub AreOpenedWith : (ℕ → Bool) → List Generation → Configuration → Beginning → Type 0
AreOpenedWith arbitrary gs config new = AreOpenedBy arbitrary 0 gs × AreOpened arbitrary (count_after 0 gs) (length config.servers) new

-- however they began, the trees of the generations followed by the configuration's aren't sound, or there are too many of them
abbrev pub IsUnsoundAfter : List Generation → Configuration → Beginning → Unsound → Type 0
IsUnsoundAfter gs config new unsound = (arbitrary : ℕ → Bool) → AreOpenedWith arbitrary gs config new → IsUnsoundFor arbitrary (generation_trees gs) config.tree unsound

-- they are sound
abbrev pub IsSoundAfter : List Generation → Configuration → Beginning → Type 0
IsSoundAfter gs config new = (arbitrary : ℕ → Bool) → AreOpenedWith arbitrary gs config new → AreSoundSince arbitrary (generation_trees gs ++ config.tree ∷ [])

-- the verdict
abbrev pub Judges : List Generation → Configuration → Beginning → Result (Unit {0}) Unsound → Type 0
Judges gs config new result = MatchResult result (λ _. IsSoundAfter gs config new) (IsUnsoundAfter gs config new)

-- the line, which is to say the generation of this number after those, has this fault
abbrev pub IsLineFault : List Generation → ℕ → List ℕ → HistoryFault → Type 0
IsLineFault gs number line (faults.Torn n) = ⊥
IsLineFault gs number line (faults.Edited n) = (n ≡ number) × IsBadLine number line lines.Edited
IsLineFault gs number line (faults.OutOfOrder n) = (n ≡ number) × IsBadLine number line lines.OutOfOrder
IsLineFault gs number line (faults.Config n fault) =
    (n ≡ number) × (began : Beginning) × (said : List ℕ) × (line ≡ generation_line number began said) × Fails (fault_of fault) (read_after (servers_after [] gs) (read said))
IsLineFault gs number line (faults.Refused n unsound) =
    (n ≡ number) × (g : Generation) × Says number (servers_after [] gs) g line × IsUnsoundAfter gs g.config g.began unsound
IsLineFault gs number line faults.TooManyLines = ⊥
IsLineFault gs number line faults.NoMemory = Unit {0}

-- what follows the generations has this fault: its line isn't ended, or there are too many before it
abbrev pub IsEndFault : List Generation → List ℕ → HistoryFault → Type 0
IsEndFault gs text (faults.Torn n) = (n ≡ length gs + 1) × (text ≢ []) × Lacks 10 text
IsEndFault gs text (faults.Edited n) = ⊥
IsEndFault gs text (faults.OutOfOrder n) = ⊥
IsEndFault gs text (faults.Config n fault) = ⊥
IsEndFault gs text (faults.Refused n unsound) = ⊥
IsEndFault gs text faults.TooManyLines = most_lines ≤ length gs
IsEndFault gs text faults.NoMemory = Unit {0}

-- what follows the generations has this fault, or its first line has it
abbrev pub IsFaultAfter : List Generation → List ℕ → HistoryFault → Type 0
IsFaultAfter gs text fault =
    IsEndFault gs text fault ⊎ ((line rest : List ℕ) × IsCutAt 10 text line rest × IsLineFault gs (length gs + 1) line fault)

-- the text is no history for this reason: so far it is one, and then comes this
pub record IsNoHistory (text : List ℕ) (fault : HistoryFault) : Type 0 where
  pub generations : List Generation
  pub front : List ℕ
  pub rest : List ℕ
  pub whole : text ≡ front ++ rest
  pub so_far : IsHistoryOf generations front
  pub fault_is : IsFaultAfter generations rest fault
