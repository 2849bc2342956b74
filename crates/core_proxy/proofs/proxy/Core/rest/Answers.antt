use Rattle.std.proofs.Common.{refl, inl}
use Rattle.core_proxy.specs.declared.note.Poll.TheVariants.{Busy, Waiting}
use Rattle.core_proxy.proofs.Polls.{nothing_polls}
use Rattle.core_proxy.proofs.proxy.Core.rest.Goals as goal

pub returns-in-Some : goal.returns-in-Some
returns-in-Some c = nothing_polls c.args.self.now c.args.client Busy (λ entries e. e) (refl, c.requires.held, inl ((_, c.in-Some.ensures.some), c.requires.later))

pub returns-in-None : goal.returns-in-None
returns-in-None c = nothing_polls c.args.self.now c.args.client Waiting (λ entries e. e) (refl, c.requires.held, c.requires.later, c.in-None.ensures.none)
