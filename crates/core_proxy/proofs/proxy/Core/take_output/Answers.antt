use Rattle.std.proofs.Common.{sym}
use Rattle.core_proxy.proofs.Clients.{written, gives}
use Rattle.core_proxy.proofs.Stalled.{still_stalled}
use Rattle.core_proxy.proofs.proxy.Core.take_output.Goals as goal

pub returns-in-Ok-clause-ok : goal.returns-in-Ok-clause-ok
returns-in-Ok-clause-ok c =
    let old = c.args.self.now in
    let x = c.in-Some.x.now in
    let y = c.take_output.new.self in
    gives old _ c.args.client x y c.in-Ok.bytes.items (written old c.args.client x y (sym c.in-Some.ensures.value)) c.in-Ok.ensures.bytes c.in-Ok.ensures.ok

pub returns-in-Ok-clause-stalled : goal.returns-in-Ok-clause-stalled
returns-in-Ok-clause-stalled c =
    let old = c.args.self.now in
    let x = c.in-Some.x.now in
    let y = c.take_output.new.self in
    still_stalled old _ c.args.client x y (written old c.args.client x y (sym c.in-Some.ensures.value)) c.in-Ok.ensures.ok
