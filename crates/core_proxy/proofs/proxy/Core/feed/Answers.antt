use Rattle.std.proofs.Common.{sym, subst, MatchOption}
use Rattle.indexmap.proofs.MapLemmas.{OnOk-map}
use Rattle.core_proxy.specs.Feeding.{HoldsAtMost}
use Rattle.core_proxy.proofs.Clients.{fed}
use Rattle.core_proxy.proofs.proxy.Core.feed.Goals as goal

pub returns-in-Some-clause-ok : goal.returns-in-Some-clause-ok
returns-in-Some-clause-ok c =
    let old = c.args.self.now in
    let x = c.in-Some.x.now in
    let y = c.feed_within.new.client in
    let was = sym c.in-Some.ensures.value in
    OnOk-map c.feed_within.result _ _ (λ taken. (
      subst (λ o. MatchOption o ⊥ (λ x. HoldsAtMost old.limits.held x c.args.piece.now)) (sym was) taken.0,
      fed old c.args.client x y c.args.piece.now was taken.1,
    )) c.feed_within.ensures.ok
