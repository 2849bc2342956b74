-- What is left of a plain tree when a child of it has given its reply.
use Rattle.std.specs.Prelude.{◌≡◌, ◌↔◌, ℕ, nat_lt, Bool, true, false, List, [], ◌∷◌, Option, Some, None, if◌then◌else◌, MatchBool, IsSome}
use Rattle.mc_types.specs.declared.ask.Op.{Op}
use Rattle.mc_types.specs.declared.ask.Op.TheVariants.{Get}
use Rattle.mc_types.specs.declared.ask.Ask.{Ask}
use Rattle.mc_types.specs.declared.call.Origin.{Origin}
use Rattle.mc_types.specs.Rank.{IsWorst}
use Rattle.mc_types.specs.ErrorTexts.{own_text}
use Rattle.mc_types.specs.declared.answer.Answer.{Answer}
use Rattle.mc_types.specs.declared.answer.Answer.TheVariants.{Hit, ServerError}
use Rattle.mc_types.specs.declared.error_text.OwnText.TheVariants.{OutOfMemory}
use Rattle.fresh_runs.specs.Calls.{Call}
use Rattle.route_tree.specs.Plan.{Plans, End, More}
use Rattle.route_tree.specs.Word.{Given, rank, GivesOnly, WordOfAll, WordOfFirst}

-- from this call on the same calls may come, and give the same
abbrev pub SameAt : ℕ → (ℕ → List Call → Given → Type 0) → (ℕ → List Call → Given → Type 0) → Type 0
SameAt b X Y = (calls : List Call) (given : Given) → X b calls given ↔ Y b calls given

-- the first of the two that has the greater rank
abbrev pub worse : Given → Given → Given
worse g h = if nat_lt (rank g) (rank h) then h else g

-- the other children in order, and the worst of this reply and theirs
abbrev pub WorstWith : Plans → Ask → Origin → Given → ℕ → List Call → Given → Type 0
WorstWith ps ask origin worst b calls given = (all : List Given) × WordOfAll ps ask origin b calls all × IsWorst rank (worst ∷ all) given

-- the other children in order, and the worst of the replies so far, of this one, and of theirs
abbrev pub AfterAll : Option Given → Plans → Ask → Origin → Given → ℕ → List Call → Given → Type 0
AfterAll None ps ask origin g b calls given = WorstWith ps ask origin g b calls given
AfterAll (Some worst) ps ask origin g b calls given = WorstWith ps ask origin (worse worst g) b calls given

-- this reply, where its rank is below the limit or no child is left, else the other children
abbrev pub AfterFirst : Plans → ℕ → Ask → Origin → Given → ℕ → List Call → Given → Type 0
AfterFirst End limit ask origin g b calls given = GivesOnly g b calls given
AfterFirst (More p ps) limit ask origin g b calls given =
    MatchBool (nat_lt (rank g) limit) (GivesOnly g b calls given) (WordOfFirst (More p ps) limit ask origin b calls given)

-- a reply of rank 0 names the call whose hit it is
abbrev pub NamesHit : Given → Type 0
NamesHit given = rank given ≡ 0 → IsSome given.from

-- the data of a hit
abbrev pub hit_data : Answer → List ℕ
hit_data (Hit flags body cas) = body
hit_data _ = []

-- the end of a command that was refused memory
abbrev pub broken_reply : Given
broken_reply = record { reply = ServerError (own_text OutOfMemory); from = None }
