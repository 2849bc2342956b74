use Rattle.serde_json.specs.View.{view}
use Rattle.mcgate_lines.specs.LimitLines.{limits_line_of}
use Rattle.mcgate_lines.proofs.InOrder.{one_more}
use Rattle.mcgate_lines.proofs.key_places.limits.write_lines.Goals as goal

pub loop-number-preserved : goal.loop-number-preserved
loop-number-preserved g c =
    one_more (limits_line_of c.args.servers.now c.args.pools.now (view c.args.value.now) c.args.asked.now) c.loop-number.number c.new-server.result _ _ _ c.new-server.ensures c.loop-number.invariant c.in_ok-write_line_of.ensures
