-- Servers on which nothing of a key was stored before a delete of it began, and runs in which deletes needn't clear those. Source: mcgate's own.
use Rattle.std.specs.Prelude.{◌≡◌, ℕ, ◌<◌, List, Option, Some, None, ◌⊎◌, slice_get}
use Rattle.mc_types.specs.declared.ask.Op.{Op}
use Rattle.mc_types.specs.declared.ask.Op.TheVariants.{Get, Gat, Set, Add, Replace, Append, Prepend, Cas, Delete, Incr, Decr, Touch}
use Rattle.mc_types.specs.declared.ask.Ask.{Ask}
use Rattle.mc_types.specs.declared.answer.Answer.{Answer}
use Rattle.mc_types.specs.Items.{Item}
use Rattle.fresh_runs.specs.Calls.{Call}
use Rattle.fresh_runs.specs.Cover.{TakesIn, IsCleared}

-- the operations that store what they bring. Where nothing is held a replace and a cas leave nothing; but their answer may not have been read, and a run lets it be any that agrees
abbrev pub IsPutting : Op → Type 0
IsPutting Set = Unit {0}
IsPutting Add = Unit {0}
IsPutting Get = ⊥
IsPutting Gat = ⊥
IsPutting Replace = Unit {0}
IsPutting Append = ⊥
IsPutting Prepend = ⊥
IsPutting Cas = Unit {0}
IsPutting Delete = ⊥
IsPutting Incr = ⊥
IsPutting Decr = ⊥
IsPutting Touch = ⊥

-- some call asks the server to put an item: of the client's data or a copy, and whatever came of it, since a call that failed may have been applied
abbrev pub PutsIn : List Call → ℕ → Type 0
PutsIn calls server = (i : ℕ) × (call : Call) × (slice_get calls i ≡ Some call) × (call.server ≡ server) × IsPutting call.ask.op

module _ (words : ℕ → Ask → List Call → Answer → Option ℕ → Type 0) (opening : ℕ → List ℕ → Option Item) where
  -- nothing of the key was at the server before the run, and no command on the key with a smaller number puts an item there
  pub record KeyIsUntouched (number : ℕ) (key : List ℕ) (server : ℕ) : Type 0 where
    pub empty : opening server key ≡ None
    pub unput : (n : ℕ) (ask : Ask) → n < number → ask.key ≡ key → (calls : List Call) (reply : Answer) (from : Option ℕ) → words n ask calls reply from → PutsIn calls server → ⊥

  -- each server that a later command on the key takes is cleared by the delete, or was untouched
  pub record IsCoveredOrUntouched : Type 0 where
    pub covered : (n m : ℕ) (delete ask : Ask) → n < m → delete.op ≡ Delete → ask.key ≡ delete.key → (calls : List Call) (reply : Answer) (from : Option ℕ) → words m ask calls reply from → (server : ℕ) → TakesIn calls from server → IsCleared words n delete server ⊎ KeyIsUntouched n delete.key server
    -- a delete asks for nothing but deletes
    pub deletes : (n : ℕ) (delete : Ask) → delete.op ≡ Delete → (calls : List Call) (reply : Answer) (from : Option ℕ) → words n delete calls reply from → (i : ℕ) (call : Call) → slice_get calls i ≡ Some call → call.ask.op ≡ Delete
