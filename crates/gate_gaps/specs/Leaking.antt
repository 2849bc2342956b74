-- The run of a script that leaks: a delete, of which some calls fail, and a read, of which some calls fail. Source: mcgate's own.
use Rattle.std.specs.Prelude.{◌≡◌, ◌≢◌, ℕ, List, [], ◌∷◌, Option, Some, None, length, true}
use Rattle.mc_types.specs.declared.ask.Op.TheVariants.{Delete}
use Rattle.mc_types.specs.declared.ask.Ask.{Ask}
use Rattle.mc_types.specs.declared.answer.Answer.{Answer}
use Rattle.mc_types.specs.declared.call.Outcome.{Outcome}
use Rattle.mc_types.specs.declared.call.Outcome.TheVariants.{Answered, Failed}
use Rattle.mc_types.specs.Agree.{AnswerAgrees}
use Rattle.mc_types.specs.Asks.{IsAsk}
use Rattle.mc_types.specs.Fits.{Fits}
use Rattle.mc_types.specs.Items.{Item}
use Rattle.mc_types.specs.Rank.{rank_of}
use Rattle.mc_types.specs.Shows.{shows}
use Rattle.fresh_runs.specs.Calls.{Call, End, Read, Never}
use Rattle.fresh_runs.specs.Run.{Event, Begins, Calls, Replies, Run, IsFreshByNumber}
use Rattle.route_tree.specs.Each.{Each}
use Rattle.route_tree.specs.Plan.{Plan, IsGoodPlan}
use Rattle.route_tree.specs.Word.{answer_of_nothing, tree_words}
use Rattle.gate_gaps.specs.Turns.{acks, calls_before_found}
use Rattle.gate_gaps.specs.Beside.{IsTry, IsElsewhere, answered}

-- how a client's call ends in the run: answered with the command's stamp, or not applied
abbrev pub call_end : ℕ → Outcome → End
call_end n (Answered answer) = Read n answer 0
call_end n Failed = Never

-- the calls of command n, made one after another
abbrev pub played : ℕ → List Call → List Event → List Event
played n [] past = past
played n (c ∷ calls) past = played n calls (Calls n c.server c.ask c.origin (call_end n c.outcome) ∷ past)

-- command 1 is the delete and command 2 the read; the latest first
abbrev pub deleted_run : (delete : Ask) (front last : List Call) → List Event
deleted_run delete front last = Replies 1 delete.key (answer_of_nothing delete.dialect delete.op) None ∷ played 1 last (played 1 front (Begins 1 delete ∷ []))

abbrev pub leaking_run : (delete read : Ask) (front last back : List Call) (s : ℕ) (answer : Answer) → List Event
leaking_run delete read front last back s answer =
    Replies 2 read.key answer (Some (length back)) ∷ played 2 (answered s read answer ∷ []) (played 2 back (Begins 2 read ∷ deleted_run delete front last))

-- a run of these words, in which the first i calls of the delete and the first j of the read fail, not applied; a further call of the delete, if there is one, is of a server other than s, and answered that nothing is there; a further one of the read is of s, and shows what was there before the run. It isn't fresh
pub record LeaksIn (at : ℕ → List ℕ → Plan) (Bars : ℕ → Ask → ℕ → Ask → Type 0) (opening : ℕ → List ℕ → Option Item) (delete read : Ask) (s i j : ℕ) (answer : Answer) : Type 0 where
  pub front : List Call
  pub last : List Call
  pub back : List Call
  pub first : Each (IsTry delete.key) front
  pub first_are : length front ≡ i
  pub elsewhere : IsElsewhere s delete last
  pub later : Each (IsTry read.key) back
  pub later_are : length back ≡ j
  pub run : Run (tree_words at) Bars opening (leaking_run delete read front last back s answer)
  pub leaks : IsFreshByNumber opening (leaking_run delete read front last back s answer) → ⊥

-- each command has its key alone
abbrev pub key_alone : ℕ → Ask → ℕ → Ask → Type 0
key_alone number ask other client = Unit {0}

-- what is asked of the two commands, and of what server s alone holds of the key
pub record IsBait (opening : ℕ → List ℕ → Option Item) (delete read : Ask) (s : ℕ) (answer : Answer) : Type 0 where
  pub item : Item
  pub old : item.stamp ≡ 0
  pub deletes : delete.op ≡ Delete
  pub delete_is : IsAsk delete
  pub read_is : IsAsk read
  pub same_key : read.key ≡ delete.key
  pub held : opening s delete.key ≡ Some item
  pub alone : (t : ℕ) → t ≢ s → opening t delete.key ≡ None
  pub gone_fits : Fits delete (answer_of_nothing delete.dialect delete.op)
  pub fits : Fits read answer
  pub showing : shows answer ≡ true
  pub done : rank_of answer ≡ 0
  pub agrees : AnswerAgrees read answer (Some item)

-- where both numbers of failing calls are computed, there is a run that leaks after these, whichever commands bar one another; the trees of the two commands may differ
abbrev pub GapsLeak : (ℕ → Ask → ℕ → Ask → Type 0) → Type 0
GapsLeak Bars =
    (at : ℕ → List ℕ → Plan) (opening : ℕ → List ℕ → Option Item) (delete read : Ask) (s i j : ℕ) (answer : Answer)
    → IsGoodPlan (at 1 delete.key) → IsGoodPlan (at 2 read.key) → IsBait opening delete read s answer
    → acks s (at 1 delete.key) ≡ Some i → calls_before_found read.op s (at 2 read.key) ≡ Some j → LeaksIn at Bars opening delete read s i j answer
