use Rattle.std.proofs.Common.{IfOk, IfErr, refl, sym, subst}
use Rattle.core_proxy.specs.declared.fault.CoreFault.{CoreFault}
use Rattle.core_proxy.specs.declared.fault.CoreFault.TheVariants.{NoMemory}
use Rattle.core_proxy.specs.declared.proxy.Core.{Core}
use Rattle.core_client.specs.Nexts.{CanAsk, CanAskBelow, CanBegin}
use Rattle.core_proxy.specs.Polls.{ForClient, ClientIsServed, NoCommandGoesOn, Polls, ReadFault}
use Rattle.core_proxy.proofs.Chains.{goes_nowhere}
use Rattle.core_proxy.proofs.Polls.{first_stops, for_map}
use Rattle.core_proxy.proofs.proxy.Core.begin_next.Goals as goal

pub next_ask-requires : goal.next_ask-requires
next_ask-requires c =
    let old = c.args.self.now in
    for_map old c.args.client (CanAskBelow old.limits.depth c.args.request.now) (CanAsk c.args.request.now) (λ x can. can.0) c.requires.asks

pub begin_ask-requires-clause-asks : goal.begin_ask-requires-clause-asks
begin_ask-requires-clause-asks c = subst (λ (core : Core). ForClient core c.args.client (CanAskBelow core.limits.depth c.args.request.now)) (sym c.in-Ok.ensures.same) c.requires.asks

pub begin_ask-requires-clause-next : goal.begin_ask-requires-clause-next
begin_ask-requires-clause-next c = subst (λ (core : Core). ForClient core c.args.client (CanBegin c.args.request.now c.in-Ok.ask)) (sym c.in-Ok.ensures.same) c.in-Ok.ensures.begins

pub begin_ask-requires-clause-held : goal.begin_ask-requires-clause-held
begin_ask-requires-clause-held c = subst (λ (core : Core). NoCommandGoesOn core c.args.client) (sym c.in-Ok.ensures.same) c.requires.held

pub returns-in-Ok-clause-ok : goal.returns-in-Ok-clause-ok
returns-in-Ok-clause-ok c = subst (λ (core : Core). IfOk c.begin_ask.result (λ poll. Polls core c.args.client poll c.begin_ask.new.self)) c.in-Ok.ensures.same c.begin_ask.ensures.ok

pub returns-in-Ok-clause-err : goal.returns-in-Ok-clause-err
returns-in-Ok-clause-err c = subst (λ (core : Core). IfErr c.begin_ask.result (λ fault. ReadFault core c.args.client fault c.begin_ask.new.self)) c.in-Ok.ensures.same c.begin_ask.ensures.err

pub returns-in-Err-clause-err : goal.returns-in-Err-clause-err
returns-in-Err-clause-err c =
    let old = c.args.self.now in
    subst (λ (core : Core). ReadFault old c.args.client c.in-Err.fault core) (sym c.in-Err.ensures.same)
    (subst (λ (f : CoreFault). ReadFault old c.args.client f old) (sym c.in-Err.ensures.err) (first_stops old old c.args.client NoMemory (goes_nowhere old, for_map old c.args.client (CanAskBelow old.limits.depth c.args.request.now) ClientIsServed (λ x can. can.0.served) c.requires.asks) refl))
