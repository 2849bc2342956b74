use Rattle.std.proofs.Common.{◌≡◌, cond, Some, refl, sym, ap, ◌∙◌, subst, true}
use Rattle.core_commands.specs.declared.command.Command.{Command}
use Rattle.core_proxy.specs.declared.proxy.Core.{Core}
use Rattle.core_proxy.specs.CoreState.{command_at, client_at, has_call_out}
use Rattle.core_client.specs.ClientState.{dropped_by}
use Rattle.core_proxy.specs.Settles.{FitsCall, Settles, SettlesRefused, TakesOut, FreesIdle}
use Rattle.core_commands.proofs.Commands.{some_command}
use Rattle.core_proxy.proofs.Outcomes.{goes_further, is_freed, breaks_off}
use Rattle.core_proxy.proofs.proxy.Core.settle.Goals as goal

pub returns-then-is_dropped-clause-ok : goal.returns-then-is_dropped-clause-ok
returns-then-is_dropped-clause-ok c =
    let old = c.args.self.now in
    let number = c.into_number-number.result in
    let caller = c.in-Some.ensures in
    let taken = c.in-Ok.ensures in
    let same : caller.0 ≡ taken.before = some_command (sym caller.1 ∙ taken.was) in
    let mid : Core = record old { commands = c.take.new.self } in
    let new : Core = record old { commands = c.remove.new.commands } in
    subst (λ n. Settles old n c.args.outcome new) c.into_number-number.ensures
    (is_freed old mid number taken.before taken.after c.args.outcome taken.was (subst (λ (a : Command). has_call_out a ≡ true) same caller.2) (subst (λ n. FitsCall old n c.args.outcome) (sym c.into_number-number.ensures) c.requires.fits) taken.takes taken.replaces (λ d. refl) refl refl refl refl
    (ap (λ (a : Command). dropped_by (client_at old a.client)) (sym same) ∙ ap (λ d. dropped_by (client_at old d)) (sym caller.3) ∙ sym c.if-is_dropped.ensures) new c.remove.ensures.gone (λ d. refl) refl refl refl refl)

pub returns-else-is_dropped-clause-ok : goal.returns-else-is_dropped-clause-ok
returns-else-is_dropped-clause-ok c =
    let old = c.args.self.now in
    let number = c.into_number-number.result in
    let caller = c.in-Some.ensures in
    let taken = c.in-Ok.ensures in
    let same : caller.0 ≡ taken.before = some_command (sym caller.1 ∙ taken.was) in
    let mid : Core = record old { commands = c.take.new.self } in
    subst (λ n. Settles old n c.args.outcome mid) c.into_number-number.ensures
    (goes_further old mid number taken.before taken.after c.args.outcome taken.was (subst (λ (a : Command). has_call_out a ≡ true) same caller.2) (subst (λ n. FitsCall old n c.args.outcome) (sym c.into_number-number.ensures) c.requires.fits) taken.takes taken.replaces (λ d. refl) refl refl refl refl
    (ap (λ (a : Command). dropped_by (client_at old a.client)) (sym same) ∙ ap (λ d. dropped_by (client_at old d)) (sym caller.3) ∙ sym c.if-is_dropped.ensures))

pub returns-in-Err-clause-err : goal.returns-in-Err-clause-err
returns-in-Err-clause-err c =
    let old = c.args.self.now in
    let number = c.into_number-number.result in
    let caller = c.in-Some.ensures in
    let taken = c.in-Err.ensures in
    let same : caller.0 ≡ taken.before = some_command (sym caller.1 ∙ taken.was) in
    let mid : Core = record old { commands = c.take.new.self } in
    subst (λ n. SettlesRefused old n c.args.outcome c.free_idle.new.self) c.into_number-number.ensures
    (breaks_off old mid c.take_out.new.self c.free_idle.new.self number caller.0 c.args.outcome caller.1 caller.2 (subst (λ n. FitsCall old n c.args.outcome) (sym c.into_number-number.ensures) c.requires.fits)
    (λ n differs. taken.replaces n ∙ ap (λ z. cond z (Some taken.after) (command_at old n)) differs) (λ d. refl) refl refl refl refl
    (subst (λ d. TakesOut mid number d c.take_out.new.self) caller.3 c.take_out.ensures) (subst (λ d. FreesIdle c.take_out.new.self d c.free_idle.new.self) caller.3 c.free_idle.ensures))
