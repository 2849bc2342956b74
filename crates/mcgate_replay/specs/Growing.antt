-- Scripts whose servers began as is said, and what the gate answers then to what they load. Source: mcgate's own.
use Rattle.std.specs.Prelude.{◌≡◌, ℕ, suc, ◌+◌, Bool, true, false, not, ◌&&◌, List, [], ◌∷◌, ◌++◌, length, nat_lt, Option, Some, None, ◌≤◌, ◌⊎◌, if◌then◌else◌}
use Rattle.route_tree.specs.At.{tree_at}
use Rattle.route_tree.specs.Each.{Each}
use Rattle.route_tree.specs.Route.{Route, IsTree}
use Rattle.route_json.specs.Configuration.{Configuration}
use Rattle.gate_check.specs.Sound.{trees_of}
use Rattle.gate_check.specs.declared.reloading.ReloadFault.{ReloadFault}
use Rattle.gate_check.specs.declared.reloading.ReloadFault.TheVariants as faults
use Rattle.gate_growth.specs.PlaceRows.{AreTooManyPlaces}
use Rattle.gate_growth.specs.PutsComputed.{puts}
use Rattle.gate_growth.specs.Grown.{AreSoundSince}
use Rattle.gate_growth.specs.Ledgers.{IsFirstLeftGap}
use Rattle.gate_growth.specs.declared.ledger.page.Beginning.{Beginning}
use Rattle.gate_growth.specs.declared.ledger.page.Beginning.TheVariants as beginnings
use Rattle.gate_growth.specs.declared.ledger.unsound.Unsound.{Unsound}
use Rattle.gate_growth.specs.declared.ledger.unsound.Unsound.TheVariants as reasons
use Rattle.core_accepted.specs.declared.beginnings.Beginnings.{Beginnings}
use Rattle.core_accepted.specs.Known.{Known, is_arbitrary, first_of, more}
use Rattle.core_accepted.specs.Logs.{BeginSo}
use Rattle.script_events.specs.declared.script.Reload.{Reload}
use Rattle.script_events.specs.Opening.{opening_of}
use Rattle.script_events.specs.Scripted.{Scripted, Piece, Add, Result, Fail, Hold, At, Now, Moment}
use Rattle.script_run.specs.declared.accepted.judging.Loading.{Loading}
use Rattle.script_run.specs.declared.accepted.judging.Loading.TheVariants.{Loaded, Refused}
use Rattle.mcgate_replay.specs.declared.judging.Judging.{Judging}
use Rattle.mcgate_replay.specs.declared.judging.Judging.TheVariants.{Any, Asked, Begun}

-- the gate isn't asked
abbrev pub asks_no_gate : Judging → Bool
asks_no_gate Any = true
asks_no_gate (Asked most) = false
asks_no_gate (Begun begun most) = false

-- ---- what servers may hold at first

-- a server that began so, one of the first configuration or not, whose tree puts an item there or not, may hold it
abbrev pub may_begin_with : Beginning → Bool → Bool → Bool
may_begin_with beginnings.Any founder put = true
may_begin_with beginnings.Own founder put = founder && put

-- the server may hold an item of the key
abbrev pub may_hold : Beginnings → Configuration → ℕ → List ℕ → Bool
may_hold begun config server key =
    may_begin_with (if nat_lt server (length config.servers) then begun.opened else begun.added) (nat_lt server (length config.servers)) (puts (tree_at config.tree key) server)

-- a script's line puts on a server what it can't have held
abbrev pub is_excluded : Beginnings → Configuration → Scripted → Bool
is_excluded begun config (Piece client bytes) = false
is_excluded begun config (Add client bytes) = false
is_excluded begun config (Result server) = false
is_excluded begun config (Fail turn manner) = false
is_excluded begun config (Hold server key content) = not (may_hold begun config server key)
is_excluded begun config (At turn loss) = false
is_excluded begun config (Now loss) = false
is_excluded begun config (Moment moment) = false

-- the place of the first such event, where the first of these has this place
abbrev pub first_excluded : Beginnings → Configuration → ℕ → List Scripted → Option ℕ
first_excluded begun config at [] = None
first_excluded begun config at (event ∷ events) = if is_excluded begun config event then Some at else first_excluded begun config (at + 1) events

-- where something is said of what servers held
abbrev pub excluded_by : Judging → Configuration → List Scripted → Option ℕ
excluded_by Any config events = None
excluded_by (Asked most) config events = None
excluded_by (Begun begun most) config events = first_excluded begun config 0 events

-- ---- what the gate answers

-- what is told of a refusal: nothing where memory was refused
abbrev pub loading_of_unsound : Unsound → Option Loading
loading_of_unsound reasons.TooManyGenerations = Some (Refused faults.TooManyGenerations)
loading_of_unsound reasons.TooManyPlaces = Some (Refused (faults.TooManyPlaces 0))
loading_of_unsound (reasons.Left generation gap) = Some (Refused (faults.Uncovered generation gap))
loading_of_unsound reasons.NoMemory = None

-- so many trees are held at most; the first one always is
abbrev pub IsFew : ℕ → ℕ → Type 0
IsFew most count = (count ≤ most) ⊎ (count ≡ 1)

-- why the tree may not follow those that are known: they are as many as are held at most; all together have too many places; or its first gap
abbrev pub MayNotFollowKnown : ℕ → Known → Route → ReloadFault → Type 0
MayNotFollowKnown most known tree faults.TooManyGenerations = most ≤ length (trees_of known.configs)
MayNotFollowKnown most known tree (faults.TooManyPlaces generation) = AreTooManyPlaces (trees_of known.configs ++ tree ∷ [])
MayNotFollowKnown most known tree (faults.Uncovered generation gap) = IsFirstLeftGap (is_arbitrary known) (trees_of known.configs) tree generation gap
MayNotFollowKnown most known tree faults.NoMemory = ⊥

-- the gate's answer, where the first is why it refuses a tree: the configuration is the next generation, of this number, or all stays
abbrev pub JudgesNext : (Known → Route → ReloadFault → Type 0) → Known → Reload → Loading → Known → Type 0
JudgesNext Why known r (Loaded n) known' = (known' ≡ more r.config known) × (n ≡ length known'.configs)
JudgesNext Why known r (Refused fault) known' = (known' ≡ known) × Why known r.config.tree fault

-- the gate's answers to these reloads, one after another
abbrev pub JudgesAll : (Known → Route → ReloadFault → Type 0) → Known → List Reload → List Loading → Known → Type 0
JudgesAll Why known [] [] known' = known' ≡ known
JudgesAll Why known [] (l ∷ ls) known' = ⊥
JudgesAll Why known (r ∷ rs) [] known' = ⊥
JudgesAll Why known (r ∷ rs) (l ∷ ls) known' = (mid : Known) × JudgesNext Why known r l mid × JudgesAll Why mid rs ls known'

-- how many are held after an answer
abbrev pub held_after : ℕ → Loading → ℕ
held_after held (Loaded n) = n
held_after held (Refused fault) = held

-- the gate may refuse a tree for any reason
abbrev pub ForAnyReason : Known → Route → ReloadFault → Type 0
ForAnyReason known tree fault = Unit {0}

-- the trees that the gate accepted are sound, by how servers began, and by these events servers began so
pub record AreFollowed (first : Configuration) (rs : List Reload) (ls : List Loading) (events : List Scripted) : Type 0 where
  pub begun : Beginnings
  pub known : Known
  pub judged : JudgesAll ForAnyReason (first_of first begun) rs ls known
  pub trees_are : Each IsTree (trees_of known.configs)
  pub sound : AreSoundSince (is_arbitrary known) (trees_of known.configs)
  pub begins : BeginSo first begun (opening_of events)
