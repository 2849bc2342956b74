-- What the laws of fleets can't do without. Source: mcgate's own.
use Rattle.std.specs.Prelude.{◌≡◌, ℕ, true, List, [], ◌∷◌, Option, Some, None, MatchBool, if◌then◌else◌, nat_eq, nat_lt}
use Rattle.mc_types.specs.declared.ask.Op.{Op}
use Rattle.mc_types.specs.declared.ask.Op.TheVariants.{Get, Delete}
use Rattle.mc_types.specs.declared.ask.Ask.{Ask}
use Rattle.mc_types.specs.declared.answer.Answer.{Answer}
use Rattle.mc_types.specs.declared.call.Origin.TheVariants.{Client}
use Rattle.mc_types.specs.Acknowledged.{says_gone}
use Rattle.mc_types.specs.Items.{Item}
use Rattle.fresh_runs.specs.Calls.{Call, OpensAtZero}
use Rattle.fresh_runs.specs.Cover.{IsCovered}
use Rattle.fresh_runs.specs.Single.{server_words}
use Rattle.fresh_runs.specs.Freshness.{nobody_bars}
use Rattle.fresh_theory.specs.StaleRuns.{StaleRun, answered_call, refill_words}
use Rattle.core_accepted.specs.Late.{IsFreshBy, WasOver}
use Rattle.core_accepted.specs.Pipes.{PipeStep, moments_of, PipeSteps}

-- steps that aren't fresh with regard to all stores whose commands were over
pub record StaleSteps (line : ℕ → ℕ → ℕ) (words : ℕ → Ask → List Call → Answer → Option ℕ → Type 0) (Bars : ℕ → Ask → ℕ → Ask → Type 0) : Type 0 where
  pub opening : ℕ → List ℕ → Option Item
  pub steps : List PipeStep
  pub opens : OpensAtZero opening
  pub run : PipeSteps line words Bars opening steps
  pub stale : IsFreshBy opening WasOver (moments_of steps) → ⊥

-- command 1 over one connection, all others over another: those of another proxy, or of the same one where it gave the first connection up
abbrev pub two_lines : ℕ → ℕ → ℕ
two_lines n s = if nat_eq n 1 then 0 else 1

-- with a single server, and though it applies the calls of each connection in order: a store that was given up over one connection may be shown after a delete over another was acknowledged
abbrev pub GivenUpIsStale : Type 0
GivenUpIsStale = StaleSteps two_lines (server_words (λ _. 0)) nobody_bars

-- a proxy for each command, and a get that copies is never under way with a delete of its proxy
abbrev pub bars_within : (ℕ → ℕ) → ℕ → Ask → ℕ → Ask → Type 0
bars_within proxy number ask other client = (proxy number ≡ proxy other) × (ask.op ≡ Get) × (client.op ≡ Delete)

-- though no call fails, deletes clear what later commands take, and each proxy keeps its own copies and deletes apart: where a get copies, a fleet's run may be stale
pub record FleetCopiesRace : Type 0 where
  pub covered : IsCovered refill_words
  pub races : StaleRun refill_words (bars_within (λ n. n))

-- two trees: by the first reads take server 0, and deletes clear it; by the second reads take server 1, and deletes clear both
abbrev pub first_words : ℕ → Ask → List Call → Answer → Option ℕ → Type 0
first_words = server_words (λ _. 0)

-- those of the second, by operation
abbrev pub second_words_of : Op → Ask → List Call → Answer → Option ℕ → Type 0
second_words_of Get ask calls reply from = (calls ≡ answered_call 1 ask Client reply ∷ []) × (from ≡ Some 0)
second_words_of Delete ask calls reply from =
    (other : Answer) × (calls ≡ answered_call 0 ask Client reply ∷ (answered_call 1 ask Client other ∷ [])) × (says_gone other ≡ true) × (from ≡ None)
second_words_of _ ask calls reply from = ⊥

-- by what is asked
abbrev pub second_words : ℕ → Ask → List Call → Answer → Option ℕ → Type 0
second_words number ask calls reply from = second_words_of ask.op ask calls reply from

-- the second tree before a number, the first from there on
abbrev pub words_from : ℕ → ℕ → Ask → List Call → Answer → Option ℕ → Type 0
words_from load number ask calls reply from = MatchBool (nat_lt number load) (second_words number ask calls reply from) (first_words number ask calls reply from)

-- the first tree for command 1, the second for all others
abbrev pub words_beside : ℕ → Ask → List Call → Answer → Option ℕ → Type 0
words_beside number ask calls reply from = MatchBool (nat_eq number 1) (first_words number ask calls reply from) (second_words number ask calls reply from)

-- a proxy may load the first tree in place of the second at any number; yet while one proxy of a fleet runs by the first and another by the second, a run may be stale, though nothing copies and no call fails
pub record OneWayIsStale : Type 0 where
  pub loads : (load : ℕ) → IsCovered (words_from load)
  pub stale : StaleRun words_beside nobody_bars
