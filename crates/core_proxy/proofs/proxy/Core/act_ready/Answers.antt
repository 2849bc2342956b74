use Rattle.std.proofs.Common.{ap}
use Rattle.core_commands.specs.Lines.{others}
use Rattle.core_proxy.specs.Polls.{Acts, Polls, StopsAfter, SoEnded, ReadFault}
use Rattle.core_proxy.proofs.Polls.{acts_polls, ended_stops, if_err, if_ok}
use Rattle.core_proxy.proofs.proxy.Core.act_ready.Goals as goal

pub returns-clause-ok : goal.returns-clause-ok
returns-clause-ok c =
    let old = c.args.self.now in
    let new = c.act.new.self in
    if_ok c.act.result (λ poll. Acts old c.args.client poll new) (λ poll. Polls old c.args.client poll new) (λ poll a. acts_polls old new c.args.client poll a) c.act.ensures.ok

pub returns-clause-err : goal.returns-clause-err
returns-clause-err c =
    let old = c.args.self.now in
    let new = c.act.new.self in
    if_err c.act.result (λ fault. StopsAfter c.args.client (SoEnded c.args.client) old fault new) (λ fault. ReadFault old c.args.client fault new) (λ fault a. ended_stops old new c.args.client fault a (ap (others c.args.client) c.act.ensures.still.1)) c.act.ensures.err
