use Rattle.std.proofs.Common.{sym, subst, OnOk, IfErr}
use Rattle.core_commands.specs.Counts.{ByNumber}
use Rattle.core_client.specs.Nexts.{CanBegin}
use Rattle.core_proxy.specs.CoreState.{GoesByEntries}
use Rattle.core_proxy.specs.Polls.{BeginsAt, ForClient, NothingHappened, ClientIsServed, StopsFirst}
use Rattle.core_proxy.proofs.Chains.{goes_nowhere}
use Rattle.core_proxy.proofs.Polls.{for_map}
use Rattle.core_proxy.proofs.proxy.Core.begin_key.Goals as goal

pub returns-in-Err-clause-err : goal.returns-in-Err-clause-err
returns-in-Err-clause-err c =
    let old = c.args.self.now in
    subst (λ (t : ByNumber). GoesByEntries old NothingHappened (record old { commands = t }) × ForClient (record old { commands = t }) c.args.client ClientIsServed) (sym c.take_room-room.ensures)
    (goes_nowhere old, for_map old c.args.client (CanBegin c.args.request.now c.args.ask) ClientIsServed (λ x can. can.served) c.requires.key)

pub returns-in-Ok-clause-ok : goal.returns-in-Ok-clause-ok
returns-in-Ok-clause-ok c =
    let old = c.args.self.now in
    subst (λ (t : ByNumber). OnOk c.begin_command.result (BeginsAt (record old { commands = t }) c.args.client c.args.ask c.begin_command.new.self)) c.take_room-room.ensures c.begin_command.ensures.ok

pub returns-in-Ok-clause-err : goal.returns-in-Ok-clause-err
returns-in-Ok-clause-err c =
    let old = c.args.self.now in
    subst (λ (t : ByNumber). IfErr c.begin_command.result (λ fault. StopsFirst c.args.client (record old { commands = t }) fault c.begin_command.new.self)) c.take_room-room.ensures c.begin_command.ensures.err
