use Rattle.std.proofs.Common.{sym, nat_eq}
use Rattle.core_commands.specs.Owned.{is_idle}
use Rattle.mc_types.proofs.Options.{on_none}
use Rattle.core_commands.proofs.Idle.{none, found_entry}
use Rattle.core_commands.proofs.owned.first_idle.Goals as goal

pub returns-in_err-place-clause-none : goal.returns-in_err-place-clause-none
returns-in_err-place-clause-none c = on_none c.from_residual.result (λ n command e. none (is_idle c.args.client) (nat_eq n) c.args.commands.now.entries command (sym c.in_err-place.ensures) e)

pub returns-clause-some : goal.returns-clause-some
returns-clause-some c = (
  c.in-Some.field-0-1.now,
  c.in-Some.ensures.value,
  found_entry (is_idle c.args.client) c.args.commands.now.entries c.in_ok-place.place c.in-Some.number.now c.in-Some.field-0-1.now (sym c.in_ok-place.ensures) (sym c.in-Some.ensures.entry),
)
