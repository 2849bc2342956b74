use Rattle.std.proofs.Common.{Some, take, ◌+◌, ap, ◌∙◌}
use Rattle.gate_certificate.specs.Format.{data_number}
use Rattle.gate_certificate.proofs.Lists.{taken, written_more}
use Rattle.gate_certificate.proofs.writing.servers_value.Goals as goal

pub loop-server-preserved : goal.loop-server-preserved
loop-server-preserved c =
    let i = c.loop-server.server-index in
    let all = c.args.servers.now in
    written_more data_number 0 c.loop-server.values.items c.push.new.self.items c.number_value.result (take i all) (take (i + 1) all) c.server-item.result c.loop-server.invariant (c.number_value.ensures.reads ∙ ap Some c.number.ensures) c.number_value.ensures.depth c.in_ok-push.ensures.items (taken all i c.server-item.result c.loop-server-test.true c.server-item.is)
