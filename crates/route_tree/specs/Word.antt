-- Which calls a plain tree may make for an ask, and which reply they give. Source: mcgate's own, under mcrouter's names of routes; the replies of a server that holds nothing are memcached's protocol.txt.
use Rattle.std.specs.Prelude.{◌≡◌, ℕ, zero, suc, ◌+◌, ◌<◌, ◌≤◌, pos, Bool, true, false, List, [], ◌∷◌, ◌++◌, Option, Some, None, length, ◌⊎◌, if◌then◌else◌, MatchBool}
use Rattle.mc_types.specs.declared.ask.Op.{Op}
use Rattle.mc_types.specs.declared.ask.Op.TheVariants.{Get, Gat, Set, Add, Replace, Append, Prepend, Cas, Delete, Incr, Decr, Touch}
use Rattle.mc_types.specs.declared.ask.Dialect.{Dialect}
use Rattle.mc_types.specs.declared.ask.Dialect.TheVariants as dialects
use Rattle.mc_types.specs.declared.ask.Ask.{Ask}
use Rattle.mc_types.specs.declared.answer.Answer.{Answer}
use Rattle.mc_types.specs.declared.answer.Answer.TheVariants.{NotStored, NotFound, Miss, Hit, Meta, ServerError}
use Rattle.mc_types.specs.declared.answer.Code.{Code}
use Rattle.mc_types.specs.declared.answer.Code.TheVariants.{En, Ns, Nf}
use Rattle.mc_types.specs.declared.answer.Fields.{Fields}
use Rattle.mc_types.specs.declared.call.Origin.{Origin}
use Rattle.mc_types.specs.declared.call.Origin.TheVariants.{Client, CopyOf}
use Rattle.mc_types.specs.declared.call.Outcome.{Outcome}
use Rattle.mc_types.specs.declared.call.Outcome.TheVariants.{Answered, Failed}
use Rattle.mc_types.specs.declared.error_text.OwnText.TheVariants.{ErrorRoute}
use Rattle.mc_types.specs.ErrorTexts.{own_text}
use Rattle.mc_types.specs.Asks.{IsAsk}
use Rattle.mc_types.specs.Rank.{rank_of, IsWorst}
use Rattle.mc_types.specs.Shows.{shows}
use Rattle.fresh_runs.specs.Calls.{Call}
use Rattle.fresh_runs.specs.Single.{FitsOutcome, reply_of}
use Rattle.route_tree.specs.Operation.{same_op}
use Rattle.route_tree.specs.Plan.{Plan, Plans, PlanPolicies, Server, Null, Failing, AllSync, Failover, MissFailover, WarmUp, ByOperation, End, More, Otherwise, Policy}

-- a reply, and the call whose item it shows
pub record Given : Type 0 where
  pub reply : Answer
  pub from : Option ℕ

-- how bad the reply is
abbrev pub rank : Given → ℕ
rank given = rank_of given.reply

-- the number, where the answer shows a part of an item
abbrev pub from_call : ℕ → Outcome → Option ℕ
from_call b (Answered answer) = if shows answer then Some b else None
from_call b Failed = None

-- what call b gives: its answer, or the error of a call that failed
abbrev pub given_by : ℕ → Outcome → Given
given_by b outcome = record { reply = reply_of outcome; from = from_call b outcome }

-- no field beside the code
abbrev pub no_fields : Fields
no_fields = record { body = None; cas = None; flags = None; size = None; ttl = None }

-- the code of a server that holds nothing and keeps nothing
abbrev pub code_of_nothing : Op → Code
code_of_nothing Get = En
code_of_nothing Gat = En
code_of_nothing Set = Ns
code_of_nothing Add = Ns
code_of_nothing Replace = Ns
code_of_nothing Append = Ns
code_of_nothing Prepend = Ns
code_of_nothing Cas = Nf
code_of_nothing Delete = Nf
code_of_nothing Incr = Nf
code_of_nothing Decr = Nf
code_of_nothing Touch = Nf

-- what a server that holds nothing says in the classic dialect
abbrev pub word_of_nothing : Op → Answer
word_of_nothing Get = Miss
word_of_nothing Gat = Miss
word_of_nothing Set = NotStored
word_of_nothing Add = NotStored
word_of_nothing Replace = NotStored
word_of_nothing Append = NotStored
word_of_nothing Prepend = NotStored
word_of_nothing Cas = NotFound
word_of_nothing Delete = NotFound
word_of_nothing Incr = NotFound
word_of_nothing Decr = NotFound
word_of_nothing Touch = NotFound

-- what a server that holds nothing answers
abbrev pub answer_of_nothing : Dialect → Op → Answer
answer_of_nothing dialects.Classic op = word_of_nothing op
answer_of_nothing dialects.Meta op = Meta (code_of_nothing op) no_fields

-- the reply of a server that holds nothing and keeps nothing
abbrev pub null_reply : Ask → Given
null_reply ask = record { reply = answer_of_nothing ask.dialect ask.op; from = None }

-- the reply of the route that is an error
abbrev pub failing_reply : Given
failing_reply = record { reply = ServerError (own_text ErrorRoute); from = None }

-- a classic get of the key
abbrev pub plain_get : Ask → Ask
plain_get ask = record { key = ask.key; op = Get; dialect = dialects.Classic; with_cas = false; flags = 0; exptime = None; body = []; cas = None; delta = 0; tokens = [] }

-- an add of the item that was answered
abbrev pub refill : Ask → Answer → ℕ → Ask
refill ask (Hit flags body cas) exptime = record { key = ask.key; op = Add; dialect = dialects.Classic; with_cas = false; flags = flags; exptime = Some (pos exptime); body = body; cas = None; delta = 0; tokens = [] }
refill ask _ exptime = record { key = ask.key; op = Add; dialect = dialects.Classic; with_cas = false; flags = 0; exptime = Some (pos exptime); body = []; cas = None; delta = 0; tokens = [] }

-- a get that is answered from the warm side
abbrev pub is_plain_get : Ask → Bool
is_plain_get ask = plain_in ask.dialect ask.with_cas
  where
    plain_in : Dialect → Bool → Bool
    plain_in dialects.Classic false = true
    plain_in dialects.Classic true = false
    plain_in dialects.Meta with_cas = false

-- what holds of a get, and what of the other operations
abbrev pub IfGet : Op → Type 0 → Type 0 → Type 0
IfGet Get get other = get
IfGet _ get other = other

-- no child is left
abbrev pub IsEnd : Plans → Type 0
IsEnd End = Unit {0}
IsEnd (More p ps) = ⊥

-- one part, and after it another that may look at what the first gave
abbrev pub Then : {G H : Type 0} → (ℕ → List Call → G → Type 0) → (G → ℕ → List Call → H → Type 0) → ℕ → List Call → H → Type 0
Then {G} first second b calls given =
    (front back : List Call) × (calls ≡ front ++ back) × (g : G) × first b front g × second g (b + length front) back given

-- nothing more is called, and this is given
abbrev pub GivesOnly : Given → ℕ → List Call → Given → Type 0
GivesOnly g b calls given = (calls ≡ []) × (given ≡ g)

-- A get through a cold and a warm side, each run of them a part.
module _ (ask : Ask) (cold : ℕ → List Call → Given → Type 0) (warm : ℕ → List Call → Given → Type 0) (add : Answer → ℕ → ℕ → List Call → Given → Type 0) where
  -- a classic get is answered from the warm side, another asks the cold side again
  abbrev pub AfterRefill : Given → ℕ → List Call → Given → Type 0
  AfterRefill from_warm b calls given = MatchBool (is_plain_get ask) (GivesOnly from_warm b calls given) (cold b calls given)

  -- a hit of the warm side is added to the cold one
  abbrev pub Refilled : Given → Option ℕ → ℕ → List Call → Given → Type 0
  Refilled from_warm None b calls given = ⊥
  Refilled from_warm (Some w) b calls given = Then (add from_warm.reply w) (λ _. AfterRefill from_warm) b calls given

  -- what the warm side gave had this rank
  abbrev pub AfterWarm : Given → Given → ℕ → ℕ → List Call → Given → Type 0
  AfterWarm first from_warm zero b calls given = Refilled from_warm from_warm.from b calls given
  AfterWarm first from_warm (suc r) b calls given = GivesOnly first b calls given

  -- what the cold side gave had this rank
  abbrev pub AfterCold : Given → ℕ → ℕ → List Call → Given → Type 0
  AfterCold first zero b calls given = GivesOnly first b calls given
  AfterCold first (suc r) b calls given = Then warm (λ from_warm. AfterWarm first from_warm (rank from_warm)) b calls given

  -- the cold side first, and where it isn't done there the warm side
  abbrev pub WarmUpWord : ℕ → List Call → Given → Type 0
  WarmUpWord b calls given = Then cold (λ first. AfterCold first (rank first)) b calls given

abbrev mutual
  -- the calls, from number b on, and what they give, are a word of the plain tree for the ask, whose data are of the origin
  pub PlanWord : Plan → Ask → Origin → ℕ → List Call → Given → Type 0
  PlanWord (Server s) ask origin b calls given =
      (outcome : Outcome) × FitsOutcome ask outcome × (calls ≡ record { server = s; ask = ask; origin = origin; outcome = outcome } ∷ []) × (given ≡ given_by b outcome)
  PlanWord Null ask origin b calls given = GivesOnly (null_reply ask) b calls given
  PlanWord Failing ask origin b calls given = GivesOnly failing_reply b calls given
  PlanWord (AllSync ps) ask origin b calls given = (all : List Given) × WordOfAll ps ask origin b calls all × IsWorst rank all given
  PlanWord (Failover ps) ask origin b calls given = WordOfFirst ps 4 ask origin b calls given
  PlanWord (MissFailover ps) ask origin b calls given =
      IfGet ask.op (WordOfFirst ps 1 ask origin b calls given) (WordOfHead ps ask origin b calls given)
  PlanWord (WarmUp cold warm exptime) ask origin b calls given =
      IfGet ask.op
      (WarmUpWord ask (PlanWord cold ask origin) (PlanWord warm (plain_get ask) origin) (λ hit w. PlanWord cold (refill ask hit exptime) (CopyOf w)) b calls given)
      (PlanWord cold ask origin b calls given)
  PlanWord (ByOperation policies) ask origin b calls given = WordOfPolicy policies ask origin b calls given

  -- one stretch for each child, in order, and what each gives
  pub WordOfAll : Plans → Ask → Origin → ℕ → List Call → List Given → Type 0
  WordOfAll End ask origin b calls all = (calls ≡ []) × (all ≡ [])
  WordOfAll (More p ps) ask origin b calls all =
      (front back : List Call) × (calls ≡ front ++ back) × (g : Given) × PlanWord p ask origin b front g
      × (rest : List Given) × (all ≡ g ∷ rest) × WordOfAll ps ask origin (b + length front) back rest

  -- stretches for the first children, each but the last of them with a reply of the rank or a greater one; that last one's reply has a lower rank, or no child is left
  pub WordOfFirst : Plans → ℕ → Ask → Origin → ℕ → List Call → Given → Type 0
  WordOfFirst End limit ask origin b calls given = ⊥
  WordOfFirst (More p ps) limit ask origin b calls given =
      (PlanWord p ask origin b calls given × ((rank given < limit) ⊎ IsEnd ps))
      ⊎ ((front back : List Call) × (calls ≡ front ++ back) × (g : Given) × PlanWord p ask origin b front g
      × (limit ≤ rank g) × WordOfFirst ps limit ask origin (b + length front) back given)

  -- the first child alone
  pub WordOfHead : Plans → Ask → Origin → ℕ → List Call → Given → Type 0
  WordOfHead End ask origin b calls given = ⊥
  WordOfHead (More p ps) ask origin b calls given = PlanWord p ask origin b calls given

  -- the child of the operation, else the default
  pub WordOfPolicy : PlanPolicies → Ask → Origin → ℕ → List Call → Given → Type 0
  WordOfPolicy (Otherwise p) ask origin b calls given = PlanWord p ask origin b calls given
  WordOfPolicy (Policy op p rest) ask origin b calls given =
      MatchBool (same_op op ask.op) (PlanWord p ask origin b calls given) (WordOfPolicy rest ask origin b calls given)

-- the commands of a tree, which may be another for each number: those of the plain tree of the number and the key, for the asks that a client can write
abbrev pub tree_words : (ℕ → List ℕ → Plan) → ℕ → Ask → List Call → Answer → Option ℕ → Type 0
tree_words at number ask calls reply from = IsAsk ask × PlanWord (at number ask.key) ask Client 0 calls (record { reply = reply; from = from })
