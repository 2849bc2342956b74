use Rattle.std.proofs.Common.{subst}
use Rattle.std.specs.Prelude.{Bool}
use Rattle.core_proxy.specs.Polls.{ShowsNext}
use Rattle.core_proxy.proofs.Polls.{show_on, still_on}
use Rattle.core_proxy.proofs.proxy.Core.show_all.Goals as goal

pub loop-preserved : goal.loop-preserved
loop-preserved c =
    let mid = c.loop.self in
    let next = subst (λ (b : Bool). ShowsNext mid c.args.client b c.show_next.new.self) c.if-branch.true c.in_ok-show_next.ensures.ok in
    record { goes = show_on c.args.self.now mid c.show_next.new.self c.args.client c.loop.invariant.goes next.0; served = next.1; still = still_on c.args.self.now mid c.show_next.new.self c.loop.invariant.still c.show_next.ensures.still }
