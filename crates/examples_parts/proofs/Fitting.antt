-- An outcome that fits what a core's call asks fits that call.
use Rattle.std.proofs.Common.{◌≡◌, ℕ, Option, Some, sym, ◌∙◌, subst}
use Rattle.mc_types.specs.Asks.{IsAsk}
use Rattle.mc_types.specs.declared.ask.Ask.{Ask}
use Rattle.mc_types.specs.declared.call.Origin.{Origin}
use Rattle.mc_types.specs.declared.call.Outcome.{Outcome}
use Rattle.fresh_runs.specs.Single.{FitsOutcome}
use Rattle.core_commands.specs.declared.command.Command.{Command}
use Rattle.core_proxy.specs.declared.proxy.Core.{Core}
use Rattle.core_proxy.specs.Settles.{FitsCall, IsCalled, IsOutAs}

same_command : {x y : Command} → ◌≡◌ {A = Option Command} (Some x) (Some y) → x ≡ y
same_command e = cc

pub fits_called : (core : Core) (number server : ℕ) (ask : Ask) (origin : Origin) (outcome : Outcome) → IsCalled core number server ask origin → FitsOutcome ask outcome → FitsCall core number outcome
fits_called core number server ask origin outcome called fits =
    λ a was out.
    let is = subst (λ (x : Command). IsOutAs x server ask origin) (same_command (sym called.was ∙ was)) called.is in
    subst (λ (x : Ask). FitsOutcome x outcome) is.ask_is fits

pub same_is_ask : (a b : Ask) → a ≡ b → IsAsk b → IsAsk a
same_is_ask a b same is = subst IsAsk (sym same) is
