use Rattle.std.proofs.Common.{MatchOption, sym, refl, ap, ◌∙◌, subst, nat_eq}
use Rattle.indexmap.specs.IndexMap.{get}
use Rattle.core_commands.specs.Counts.{ByNumber}
use Rattle.route_job.specs.Given.{given_when_done}
use Rattle.core_proxy.specs.Polls.{ClientIsServed}
use Rattle.core_proxy.proofs.Clients.{written}
use Rattle.core_proxy.proofs.Polls.{of_client, ends_as, ended_goes}
use Rattle.core_proxy.proofs.Resting.{placed}
use Rattle.core_proxy.proofs.proxy.Core.end_unshown.Goals as goal

pub returns-clause-ended : goal.returns-clause-ended
returns-clause-ended c = λ beside fits.
    let old = c.args.self.now in
    let x = c.in-Some-get_mut.x.now in
    let y = c.take_reply.new.self in
    let was = sym c.in-Some-get_mut.ensures.value in
    let t = written old c.args.client x y was in
    let can = ends_as old c.args.client c.args.number c.requires.done c.in-Some.command (sym c.in-Some.ensures.value) in
    let served = of_client old c.args.client ClientIsServed x was c.requires.served in
    let has = placed old beside fits c.args.client c.args.number can.command x can.idle.was can.idle.own was served in
    let p = c.take_reply.ensures.answered has.0 has.1 in
    ended_goes old _ c.args.client c.args.number x y can p.0 p.1 (given_when_done c.done_of-ask.result.1) c.done_of-ask.result.0 c.note_of-note.result.0 c.note_of-note.result.1
    was t.is t.others served
    c.done_of-ask.ensures.done c.done_of-ask.ensures.ask c.note_of-note.ensures p.2
    (λ n. ap (λ (t : ByNumber). get nat_eq t n) c.done_of-ask.ensures.same ∙ c.remove.ensures.gone n) refl refl refl beside fits

pub returns-clause-served : goal.returns-clause-served
returns-clause-served c =
    let old = c.args.self.now in
    let x = c.in-Some-get_mut.x.now in
    let was = sym c.in-Some-get_mut.ensures.value in
    subst (λ o. MatchOption o ⊥ ClientIsServed) (sym (written old c.args.client x c.take_reply.new.self was).is) (c.take_reply.ensures.dropped ∙ of_client old c.args.client ClientIsServed x was c.requires.served)
