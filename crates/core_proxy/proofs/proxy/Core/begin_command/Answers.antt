use Rattle.core_client.specs.declared.client.Client.{Client}
use Rattle.core_client.specs.Clients.{has_own}
use Rattle.std.proofs.Common.{◌≡◌, false, ◌+◌, sym, refl, ap, ◌∙◌, nat_eq, cond, Some}
use Rattle.std.specs.Map.{lookup}
use Rattle.core_proxy.specs.Steps.{Turns}
use Rattle.core_client.specs.Fronts.{ClientStays}
use Rattle.core_client.specs.Nexts.{CanBegin}
use Rattle.core_proxy.specs.Polls.{ClientIsServed}
use Rattle.core_proxy.proofs.Clients.{written}
use Rattle.core_proxy.proofs.Polls.{same_goes, still_goes, begun_goes, of_client, when_ok, when_err, still_served, for_map}
use Rattle.core_proxy.proofs.proxy.Core.begin_command.Goals as goal

pub returns-then-is_err-clause-err : goal.returns-then-is_err-clause-err
returns-then-is_err-clause-err c =
    let old = c.args.self.now in
    (same_goes old _ (λ n. refl) (λ n. ap (lookup (nat_eq n)) c.make_room.ensures.entries) refl refl refl, for_map old c.args.client (CanBegin c.args.request.now c.args.ask) ClientIsServed (λ x can. can.served) c.requires.key)

pub returns-then-is_err-2-clause-err : goal.returns-then-is_err-2-clause-err
returns-then-is_err-2-clause-err c =
    let old = c.args.self.now in
    let x = c.in-Some.x.now in
    let y = c.begin-begun.new.self in
    let was = sym c.in-Some.ensures.value in
    let w = written old c.args.client x y was in
    let t : Turns old _ c.args.client (Some x) (Some y) = record { was = w.was; is = w.is; others = w.others; commands = λ n. ap (lookup (nat_eq n)) c.make_room.ensures.entries; tree = refl; limits = refl; number = refl } in
    let same = when_err c.begin-begun.result (ClientStays x y) (sym c.is_err-2.ensures.value ∙ c.if-is_err-2.true) c.begin-begun.ensures.err in
    (still_goes old _ c.args.client x y t same, still_served old _ c.args.client x y t same (of_client old c.args.client (CanBegin c.args.request.now c.args.ask) x was c.requires.key).served)

pub returns-clause-ok : goal.returns-clause-ok
returns-clause-ok c =
    let old = c.args.self.now in
    let x = c.in-Some.x.now in
    let y = c.begin-begun.new.self in
    let t = written old c.args.client x y (sym c.in-Some.ensures.value) in
    let can = of_client old c.args.client (CanBegin c.args.request.now c.args.ask) x (sym c.in-Some.ensures.value) c.requires.key in
    begun_goes old _ c.args.client x y c.args.ask c.args.command t.was t.is t.others can.served (of_client old c.args.client (λ (z : Client). has_own c.args.ask.key z.queue.items ≡ false) x (sym c.in-Some.ensures.value) c.requires.first) c.requires.apart c.requires.claim c.requires.well_formed c.requires.tree c.requires.begun
    (when_ok c.begin-begun.result _ (sym c.is_err-2.ensures.value ∙ c.if-is_err-2.false) c.begin-begun.ensures.ok)
    (λ n. c.put.ensures n ∙ ap (λ o. cond (nat_eq (old.number + 1) n) (Some c.args.command) o) (ap (lookup (nat_eq n)) c.make_room.ensures.entries)) refl refl refl c.leave.ensures
