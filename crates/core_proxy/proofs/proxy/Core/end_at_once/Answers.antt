use Rattle.std.proofs.Common.{◌↔◌, sym, refl, ap, ◌∙◌, subst}
use Rattle.std.specs.Prelude.{IsTrue}
use Rattle.mc_types.proofs.Options.{on_none}
use Rattle.mc_types.specs.Acknowledged.{Acknowledges}
use Rattle.mc_types.specs.declared.ask.Ask.{Ask}
use Rattle.core_commands.proofs.Commands.{some_command}
use Rattle.core_commands.specs.declared.command.Command.{Command}
use Rattle.core_proxy.specs.declared.proxy.Core.{Core}
use Rattle.core_proxy.specs.CoreState.{client_at}
use Rattle.core_proxy.specs.Polls.{ClientIsServed}
use Rattle.core_proxy.proofs.AtHead.{shown_at_once}
use Rattle.core_proxy.proofs.Clients.{written}
use Rattle.core_proxy.proofs.Polls.{of_client, ends_as, still_goes}
use Rattle.core_proxy.proofs.proxy.Core.end_at_once.Goals as goal

pub returns-in_err-told-clause-none : goal.returns-in_err-told-clause-none
returns-in_err-told-clause-none c =
    let old = c.args.self.now in
    let x = c.in-Some-get_mut.x.now in
    let y = c.show_done.new.client in
    let was = sym c.in-Some-get_mut.ensures.value in
    let can = c.requires.done in
    on_none c.from_residual.result (still_goes old _ c.args.client x y (written old c.args.client x y was) c.in_err-told.ensures.none, record { command = can.command; idle = can.idle; done = can.done })

pub returns-clause-some : goal.returns-clause-some
returns-clause-some c =
    let old = c.args.self.now in
    let client = c.args.client in
    let x = c.in-Some-get_mut.x.now in
    let y = c.show_done.new.client in
    let was = sym c.in-Some-get_mut.ensures.value in
    let t = written old client x y was in
    let can = ends_as old client c.args.number c.requires.done c.in-Some.command.now (sym c.in-Some.ensures.value) in
    let shows = c.in_ok-told.ensures.some in
    let away = c.take_away-ask.ensures in
    let ask_is = away.ask_is ∙ ap (λ (a : Command). a.ask) (some_command (sym away.was ∙ can.idle.was)) in
    shown_at_once old c.take_away-ask.new.self client c.args.number x y can c.in_ok-told.told c.take_away-ask.result _ shows
    was (ap (λ (k : Core). client_at k client) away.core_is ∙ t.is) (λ d differs. ap (λ (k : Core). client_at k d) away.core_is ∙ t.others d differs) (of_client old client ClientIsServed x was c.requires.served)
    ask_is (record {
      number_is = refl;
      asked = refl;
      from = shows.from;
      reply_is = refl;
      acknowledged = subst (λ (a : Ask). IsTrue c.in_ok-told.told.acknowledged ↔ Acknowledges a shows.given.reply) (sym ask_is) shows.acknowledged;
      error = shows.error;
    })
    away.gone (ap (λ (k : Core). k.tree) away.core_is) (ap (λ (k : Core). k.limits) away.core_is) (ap (λ (k : Core). k.number) away.core_is)
