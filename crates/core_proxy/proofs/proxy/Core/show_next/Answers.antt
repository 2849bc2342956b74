use Rattle.std.proofs.Common.{sym}
use Rattle.core_proxy.specs.Polls.{ClientIsServed}
use Rattle.core_proxy.proofs.Clients.{written}
use Rattle.core_proxy.proofs.Polls.{of_client, shown_goes, still_goes, still_served}
use Rattle.core_proxy.proofs.proxy.Core.show_next.Goals as goal

pub returns-in-Ok-clause-ok : goal.returns-in-Ok-clause-ok
returns-in-Ok-clause-ok c =
    let old = c.args.self.now in
    let x = c.in-Some.x.now in
    let was = sym c.in-Some.ensures.value in
    shown_goes old _ c.args.client x c.show_head.new.self c.in-Ok.shown (written old c.args.client x c.show_head.new.self was) (of_client old c.args.client ClientIsServed x was c.requires) c.in-Ok.ensures.ok

pub returns-in-Err-clause-err : goal.returns-in-Err-clause-err
returns-in-Err-clause-err c =
    let old = c.args.self.now in
    let x = c.in-Some.x.now in
    let y = c.show_head.new.self in
    let was = sym c.in-Some.ensures.value in
    let t = written old c.args.client x y was in
    (still_goes old _ c.args.client x y t c.in-Err.ensures.err, still_served old _ c.args.client x y t c.in-Err.ensures.err (of_client old c.args.client ClientIsServed x was c.requires))
