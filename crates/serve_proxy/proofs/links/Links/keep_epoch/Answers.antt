use Rattle.serve_proxy.proofs.Turns.{in_turn_if}
use Rattle.serve_proxy.proofs.links.Links.keep_epoch.Goals as goal

pub returns : goal.returns
returns c = record {
  turn = in_turn_if c.args.servers.now c.args.at c.is_in_turn-is_in_turn.result c.args.self.now.all.items c.retire.new.self.all.items c.retire.ensures.retired c.is_in_turn-is_in_turn.ensures;
  retired = (_, c.retire.ensures.retired);
  lines = c.retire.ensures.lines;
}
