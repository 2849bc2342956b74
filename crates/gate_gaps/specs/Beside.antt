-- Words in which all calls fail but a last one. Source: mcgate's own.
use Rattle.std.specs.Prelude.{◌≡◌, ◌≢◌, ℕ, ◌+◌, List, [], ◌∷◌, ◌++◌, Some, length, ◌⊎◌, true, MatchBool, IsSome}
use Rattle.mc_types.specs.declared.ask.Op.{Op}
use Rattle.mc_types.specs.declared.ask.Op.TheVariants.{Delete}
use Rattle.mc_types.specs.declared.ask.Ask.{Ask}
use Rattle.mc_types.specs.declared.answer.Answer.{Answer}
use Rattle.mc_types.specs.declared.call.Origin.TheVariants.{Client}
use Rattle.mc_types.specs.declared.call.Outcome.TheVariants.{Answered, Failed}
use Rattle.mc_types.specs.Fits.{Fits}
use Rattle.mc_types.specs.Rank.{rank_of}
use Rattle.mc_types.specs.Shows.{shows}
use Rattle.fresh_runs.specs.Calls.{Call}
use Rattle.route_tree.specs.Each.{Each}
use Rattle.route_tree.specs.Operation.{same_op}
use Rattle.route_tree.specs.Plan.{Plan, Plans, PlanPolicies, Server, Null, Failing, AllSync, Failover, MissFailover, WarmUp, ByOperation, End, More, Otherwise, Policy, IsGoodPlan}
use Rattle.route_tree.specs.Word.{PlanWord, answer_of_nothing, null_reply}
use Rattle.gate_coverage.specs.declared.deleting.Deleting.{Deleting}
use Rattle.gate_coverage.specs.Cover.{Takes, Clears}
use Rattle.gate_gaps.specs.Turns.{acks, calls_before_found}

-- a call on the key that failed
abbrev pub IsTry : List ℕ → Call → Type 0
IsTry key call = (call.ask.key ≡ key) × (call.outcome ≡ Failed)

-- a client's call that was answered
abbrev pub answered : ℕ → Ask → Answer → Call
answered server ask answer = record { server = server; ask = ask; origin = Client; outcome = Answered answer }

-- no call, or one of another server that holds nothing
abbrev pub IsElsewhere : ℕ → Ask → List Call → Type 0
IsElsewhere s ask last = (last ≡ []) ⊎ ((t : ℕ) × (t ≢ s) × (last ≡ answered t ask (answer_of_nothing ask.dialect ask.op) ∷ []))

-- a word of the delete in which n calls fail; then it is acknowledged, by a server other than s that holds nothing, or without a call, and its reply is that of a null route
abbrev pub AckedAfter : Plan → ℕ → Ask → ℕ → ℕ → Type 0
AckedAfter plain s ask b n =
    (front last : List Call) × PlanWord plain ask Client b (front ++ last) (null_reply ask)
    × Each (IsTry ask.key) front × (length front ≡ n) × IsElsewhere s ask last

-- a word of the read in which n calls fail; then server s answers this, which is shown
abbrev pub ShownAfter : Plan → ℕ → Ask → Answer → ℕ → ℕ → Type 0
ShownAfter plain s ask answer b n =
    (front : List Call) × PlanWord plain ask Client b (front ++ answered s ask answer ∷ []) (record { reply = answer; from = Some (b + n) })
    × Each (IsTry ask.key) front × (length front ≡ n)

-- no all-sync and no warm-up stands in the plain tree, children for other operations aside
module _ (op : Op) where
  abbrev mutual
    pub IsDirect : Plan → Type 0
    IsDirect (Server t) = Unit {0}
    IsDirect Null = Unit {0}
    IsDirect Failing = Unit {0}
    IsDirect (AllSync ps) = ⊥
    IsDirect (Failover ps) = AreDirect ps
    IsDirect (MissFailover ps) = AreDirect ps
    IsDirect (WarmUp cold warm e) = ⊥
    IsDirect (ByOperation policies) = IsPolicyDirect policies

    pub AreDirect : Plans → Type 0
    AreDirect End = Unit {0}
    AreDirect (More p ps) = IsDirect p × AreDirect ps

    pub IsPolicyDirect : PlanPolicies → Type 0
    IsPolicyDirect (Otherwise p) = IsDirect p
    IsPolicyDirect (Policy o p rest) = MatchBool (same_op o op) (IsDirect p) (IsPolicyDirect rest)

-- a number that is computed of a delete is one of a word
abbrev pub AcksAreWords : Type 0
AcksAreWords =
    (plain : Plan) (s n : ℕ) (ask : Ask) → IsGoodPlan plain → ask.op ≡ Delete → Fits ask (answer_of_nothing ask.dialect ask.op) → acks s plain ≡ Some n → AckedAfter plain s ask 0 n

-- a number that is computed of a read is one of a word
abbrev pub FindsAreWords : Type 0
FindsAreWords =
    (plain : Plan) (s n : ℕ) (ask : Ask) (answer : Answer) → IsGoodPlan plain → Fits ask answer → shows answer ≡ true → rank_of answer ≡ 0 → calls_before_found ask.op s plain ≡ Some n → ShownAfter plain s ask answer 0 n

-- where a server isn't cleared, a number is computed, an all-sync or a warm-up aside
abbrev pub KeptIsAcked : Type 0
KeptIsAcked = (plain : Plan) (s : ℕ) (kind : Deleting) → IsGoodPlan plain → IsDirect Delete plain → (Clears plain kind s → ⊥) → IsSome (acks s plain)

-- where a server is taken, a number is computed, an all-sync or a warm-up aside
abbrev pub TakenIsFound : Type 0
TakenIsFound = (plain : Plan) (op : Op) (s : ℕ) → IsGoodPlan plain → IsDirect op plain → Takes plain op s → IsSome (calls_before_found op s plain)

-- the numbers of failing calls before a delete is acknowledged elsewhere and before a read shows the server's item: each is that of a word, and a gap has both, an all-sync or a warm-up aside
pub record GapsHaveWords : Type 0 where
  pub acked : AcksAreWords
  pub found : FindsAreWords
  pub kept : KeptIsAcked
  pub taken : TakenIsFound
