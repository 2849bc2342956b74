-- Which servers a word takes, which it clears, and when the one covers the other. Source: mcgate's own.
use Rattle.std.specs.Prelude.{◌≡◌, ℕ, ◌<◌, List, [], ◌∷◌, Option, Some, MatchOption, ◌⊎◌, slice_get, true, false}
use Rattle.mc_types.specs.declared.ask.Op.TheVariants.{Delete}
use Rattle.mc_types.specs.declared.ask.Ask.{Ask}
use Rattle.mc_types.specs.declared.answer.Answer.{Answer}
use Rattle.mc_types.specs.declared.call.Origin.TheVariants.{CopyOf}
use Rattle.mc_types.specs.declared.call.Outcome.TheVariants.{Answered}
use Rattle.mc_types.specs.Acknowledged.{Acknowledges, says_gone}
use Rattle.mc_types.specs.Asks.{IsAsk}
use Rattle.mc_types.specs.Fits.{Fits}
use Rattle.mc_types.specs.Shows.{shows}
use Rattle.fresh_runs.specs.Calls.{Call}

-- call i of the list is one of the server
abbrev pub IsCallOf : List Call → ℕ → ℕ → Type 0
IsCallOf calls i server = (call : Call) × (slice_get calls i ≡ Some call) × (call.server ≡ server)

-- some call copies what call i was answered
abbrev pub IsCopied : List Call → ℕ → Type 0
IsCopied calls i = (j : ℕ) × (copy : Call) × (slice_get calls j ≡ Some copy) × (copy.origin ≡ CopyOf i)

-- the server's item is shown, or copied
abbrev pub TakesIn : List Call → Option ℕ → ℕ → Type 0
TakesIn calls from server = (i : ℕ) × IsCallOf calls i server × ((from ≡ Some i) ⊎ IsCopied calls i)

-- a call of the server was answered that the key is gone
abbrev pub ClearsIn : List Call → ℕ → Type 0
ClearsIn [] server = ⊥
ClearsIn (call ∷ calls) server =
    ((call.server ≡ server) × ((answer : Answer) × (call.outcome ≡ Answered answer) × (says_gone answer ≡ true))) ⊎ ClearsIn calls server

-- call i was answered so, and the answer shows a part of an item
pub record IsAnswerOf (calls : List Call) (i : ℕ) (answer : Answer) : Type 0 where
  pub call : Call
  pub made : slice_get calls i ≡ Some call
  pub answered : call.outcome ≡ Answered answer
  pub asked : IsAsk call.ask
  pub fits : Fits call.ask answer
  pub showing : shows answer ≡ true

module _ (words : ℕ → Ask → List Call → Answer → Option ℕ → Type 0) where
  -- whenever this delete is acknowledged, the server has been cleared
  abbrev pub IsCleared : ℕ → Ask → ℕ → Type 0
  IsCleared number delete server =
      (calls : List Call) (reply : Answer) (from : Option ℕ) → words number delete calls reply from → Acknowledges delete reply → ClearsIn calls server

  -- each server that a later command on the key takes is cleared by the delete
  pub record IsCovered : Type 0 where
    pub covered : (n m : ℕ) (delete ask : Ask) → n < m → delete.op ≡ Delete → ask.key ≡ delete.key → (calls : List Call) (reply : Answer) (from : Option ℕ) → words m ask calls reply from → (server : ℕ) → TakesIn calls from server → IsCleared n delete server
    -- a delete asks for nothing but deletes
    pub deletes : (n : ℕ) (delete : Ask) → delete.op ≡ Delete → (calls : List Call) (reply : Answer) (from : Option ℕ) → words n delete calls reply from → (i : ℕ) (call : Call) → slice_get calls i ≡ Some call → call.ask.op ≡ Delete

  -- a reply shows no part of an item, or is the answer of the call that it names
  abbrev pub ShowsWhatItFound : Type 0
  ShowsWhatItFound =
      (number : ℕ) (ask : Ask) (calls : List Call) (reply : Answer) (from : Option ℕ)
      → words number ask calls reply from → MatchOption from (shows reply ≡ false) (λ i. IsAnswerOf calls i reply)
