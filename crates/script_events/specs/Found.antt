-- What calls found, and what is known of its stamps. Source: mcgate's own.
use Rattle.std.specs.Prelude.{◌≡◌, ℕ, List, [], ◌∷◌, slice_get, Option, Some, None, option_map, unwrap_or}
use Rattle.mc_types.specs.declared.call.Origin.{Origin}
use Rattle.mc_types.specs.declared.call.Origin.TheVariants.{Client, CopyOf}
use Rattle.mc_types.specs.declared.call.Outcome.{Outcome}
use Rattle.mc_types.specs.declared.call.Outcome.TheVariants.{Answered, Failed}
use Rattle.mc_types.specs.declared.ask.Ask.{Ask}
use Rattle.mc_types.specs.Items.{Item}
use Rattle.mc_types.specs.Agree.{AnswerAgrees}
use Rattle.fresh_runs.specs.Calls.{Call}

abbrev pub stamp_in : Option (Option ℕ) → Option ℕ
stamp_in None = None
stamp_in (Some stamp) = stamp

-- the stamp of what this call found, where it is known
abbrev pub stamp_at : List (Option ℕ) → ℕ → Option ℕ
stamp_at found call = stamp_in (slice_get found call)

-- the stamp of what a call of this origin stores: a copy has that of the item that it copies, and 0 where none was found
abbrev pub stamp_given : List (Option ℕ) → ℕ → Origin → ℕ
stamp_given found number Client = number
stamp_given found number (CopyOf call) = unwrap_or (stamp_at found call) 0

-- an answer comes with the stamp of the item that was found, where there was one
abbrev pub IsStamp : Outcome → Option Item → Option ℕ → Type 0
IsStamp (Answered answer) before stamp = stamp ≡ option_map (λ item. item.stamp) before
IsStamp Failed before stamp = stamp ≡ None

-- an answer agrees with what was found
abbrev pub AgreesWith : Ask → Outcome → Option Item → Type 0
AgreesWith ask (Answered answer) found = AnswerAgrees ask answer found
AgreesWith ask Failed found = Unit {0}

-- what a call found, and what is known of its stamp
pub record IsFound (call : Call) (found : Option Item) (stamp : Option ℕ) : Type 0 where
  pub agrees : AgreesWith call.ask call.outcome found
  pub stamp_is : IsStamp call.outcome found stamp

-- what each call found, and what is known of its stamp
abbrev pub AreFound : List Call → List (Option Item) → List (Option ℕ) → Type 0
AreFound [] [] [] = Unit {0}
AreFound (call ∷ calls) (found ∷ more) (stamp ∷ stamps) = IsFound call found stamp × AreFound calls more stamps
AreFound [] [] (stamp ∷ stamps) = ⊥
AreFound [] (found ∷ more) stamps = ⊥
AreFound (call ∷ calls) [] stamps = ⊥
AreFound (call ∷ calls) (found ∷ more) [] = ⊥
