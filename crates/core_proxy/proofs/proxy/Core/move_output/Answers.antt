use Rattle.std.proofs.Common.{sym, ap, ◌∙◌, ◌++◌}
use Rattle.wire_parts.specs.Sending.{bytes_of}
use Rattle.core_proxy.specs.CoreState.{client_at}
use Rattle.core_client.specs.ClientState.{output_by}
use Rattle.core_proxy.proofs.Clients.{written, gives}
use Rattle.core_proxy.proofs.Stalled.{still_stalled}
use Rattle.core_proxy.proofs.proxy.Core.move_output.Goals as goal

pub returns-in-Ok-clause-bytes : goal.returns-in-Ok-clause-bytes
returns-in-Ok-clause-bytes c = c.in-Ok.ensures.bytes ∙ ap (λ l. bytes_of c.args.out.now ++ output_by l) c.in-Some.ensures.value

pub returns-in-Ok-clause-ok : goal.returns-in-Ok-clause-ok
returns-in-Ok-clause-ok c =
    let old = c.args.self.now in
    let x = c.in-Some.x.now in
    let y = c.move_output.new.self in
    let was = sym c.in-Some.ensures.value in
    gives old _ c.args.client x y (output_by (client_at old c.args.client)) (written old c.args.client x y was) (ap output_by was) c.in-Ok.ensures.ok

pub returns-in-Ok-clause-stalled : goal.returns-in-Ok-clause-stalled
returns-in-Ok-clause-stalled c =
    let old = c.args.self.now in
    let x = c.in-Some.x.now in
    let y = c.move_output.new.self in
    still_stalled old _ c.args.client x y (written old c.args.client x y (sym c.in-Some.ensures.value)) c.in-Ok.ensures.ok
