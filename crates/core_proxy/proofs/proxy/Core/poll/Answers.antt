use Rattle.std.proofs.Common.{MatchOption, refl, inl, subst}
use Rattle.core_proxy.specs.declared.note.Poll.TheVariants.{Idle}
use Rattle.core_proxy.specs.declared.fault.CoreFault.{CoreFault}
use Rattle.core_proxy.specs.Polls.{ClientIsDone, ReadFault}
use Rattle.core_proxy.proofs.Polls.{nothing_polls, refused}
use Rattle.core_proxy.proofs.proxy.Core.poll.Goals as goal

pub returns-then-x-clause-ok : goal.returns-then-x-clause-ok
returns-then-x-clause-ok c = nothing_polls c.args.self.now c.args.client Idle (λ entries e. e) (refl, subst (λ o. MatchOption o ⊥ ClientIsDone) c.in-Some.ensures (inl c.if-x.true))

pub returns-in-Err-NoMemory-clause-err : goal.returns-in-Err-NoMemory-clause-err
returns-in-Err-NoMemory-clause-err c =
    refused c.args.self.now c.poll_served.new.self c.drop_client.new.self c.args.client c.drop_client.ensures
    (subst (λ (f : CoreFault). ReadFault c.args.self.now c.args.client f c.poll_served.new.self) c.in-Err-NoMemory.field-0-is c.in-Err-NoMemory.ensures.err)
