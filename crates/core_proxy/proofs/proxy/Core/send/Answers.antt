use Rattle.std.proofs.Common.{◌≡◌, true, cond, nat_eq, Some, sym, refl, ap, ◌∙◌, subst}
use Rattle.std.proofs.lemmas.Bool.{eq-eqb}
use Rattle.indexmap.specs.IndexMap as map
use Rattle.route_job.specs.Jobs.{IsCalling}
use Rattle.core_commands.specs.declared.command.Command.{Command}
use Rattle.core_proxy.specs.CoreState.{command_at}
use Rattle.core_commands.specs.Begun.{IsTicketFor}
use Rattle.core_commands.proofs.Commands.{some_command}
use Rattle.core_proxy.proofs.Polls.{sent_goes, sent_out, same_goes}
use Rattle.core_proxy.proofs.proxy.Core.send.Goals as goal

pub send-requires : goal.send-requires
send-requires c = let can = c.requires.can in record { command = can.command; was = can.was; idle = can.idle; calling = can.calling }

pub returns-in-Ok-clause-ok : goal.returns-in-Ok-clause-ok
returns-in-Ok-clause-ok c =
    let old = c.args.self.now in
    let can = c.requires.can in
    let sent = c.in-Ok.ensures.ok in
    let same : sent.command ≡ can.command = some_command (sym sent.was ∙ can.was) in
    sent_goes old _ c.args.number can c.in-Ok.ticket (subst (λ (b : Command). IsTicketFor c.args.number b.job c.in-Ok.ticket) same sent.is)
    (λ n. sent.out n ∙ ap (λ (b : Command). cond (nat_eq c.args.number n) (Some (record b { is_out = true })) (command_at old n)) same)
    (λ n. refl) refl refl refl

pub returns-in-Ok-clause-out : goal.returns-in-Ok-clause-out
returns-in-Ok-clause-out c =
    let number = c.args.number in
    let can = c.requires.can in
    let sent = c.in-Ok.ensures.ok in
    let calling = subst (λ (b : Command). IsCalling b.job) (some_command (sym can.was ∙ sent.was)) can.calling in
    sent_out _ number sent.command c.in-Ok.ticket calling sent.is
    (sent.out number ∙ ap (λ same. cond same (Some (record sent.command { is_out = true })) (command_at c.args.self.now number)) (eq-eqb number number refl))

pub returns-in-Err-clause-err : goal.returns-in-Err-clause-err
returns-in-Err-clause-err c = (same_goes c.args.self.now _ (λ n. refl) (λ n. ap (λ m. map.get nat_eq m n) c.in-Err.ensures.err) refl refl refl, c.requires.served)
