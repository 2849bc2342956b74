-- Runs in which servers apply late what had failed, on generations that needn't clear what was never stored.
use Rattle.std.proofs.Common.{ℕ, List, Option, refl}
use Rattle.mc_types.specs.declared.ask.Ask.{Ask}
use Rattle.mc_types.specs.declared.answer.Answer.{Answer}
use Rattle.mc_types.specs.declared.call.Origin.{Origin}
use Rattle.mc_types.specs.declared.call.Origin.TheVariants.{Client, CopyOf}
use Rattle.mc_types.specs.Items.{Item}
use Rattle.fresh_runs.specs.Calls.{Call}
use Rattle.fresh_runs.specs.Run.{Event, Calls}
use Rattle.fresh_runs.specs.Run as sharing
use Rattle.gate_growth.proofs.Since.{since_is_covered}
use Rattle.core_accepted.specs.Late.{told, LateRun, WasOver, LandsInTime}
use Rattle.core_accepted.specs.Pipes.{moments_of, WasOverOn}
use Rattle.core_accepted.specs.Rollout.{words_by}
use Rattle.core_accepted.specs.LateCores.{only_line}
use Rattle.core_accepted.specs.LateGrown.{GrownPipesAreFresh, LateGrownGenerationsAreFresh}
use Rattle.core_accepted.proofs.LateFresh.{grown_fresh, grown_fresh_by_number}
use Rattle.core_accepted.proofs.Pipes.{timely}
use Rattle.core_accepted.proofs.FleetsFresh.{run_more}

-- all stores that had failed were sent over it
over_it : (past : List Event) (number server : ℕ) (ask : Ask) (origin : Origin) → LandsInTime (WasOverOn only_line) past number server ask origin → LandsInTime WasOver past number server ask origin
over_it past number server ask Client may = λ store n delete begins op same ended clears. may store n delete begins op same (ended, λ j call got begin failed. refl) clears
over_it past number server ask (CopyOf i) may = may

pub grown_pipes : (words : ℕ → Ask → List Call → Answer → Option ℕ → Type 0) (Bars : ℕ → Ask → ℕ → Ask → Type 0) (opening : ℕ → List ℕ → Option Item) → GrownPipesAreFresh words Bars opening
grown_pipes words Bars opening cover steps h =
    let run = timely only_line words Bars opening (λ number ask calls reply from word j call i got o n s. refl) steps h in
    let timed : LateRun words Bars opening (LandsInTime WasOver) (moments_of steps) =
    run_more words Bars opening (LandsInTime (WasOverOn only_line)) (LandsInTime WasOver) (λ past r number server ask origin failed may. over_it (told opening past) number server ask origin may) (moments_of steps) run in (
      (λ copies. grown_fresh words Bars opening cover WasOver copies (λ past n s ended. ended) (moments_of steps) timed),
      (λ alone. grown_fresh_by_number words Bars opening cover alone (moments_of steps) timed),
    )

pub late_generations : (Bars : ℕ → Ask → ℕ → Ask → Type 0) → LateGrownGenerationsAreFresh Bars
late_generations Bars arbitrary trees are since tree loaded opening opens steps h =
    grown_pipes (words_by tree) Bars opening (since_is_covered arbitrary trees are since tree loaded opening opens) steps h
