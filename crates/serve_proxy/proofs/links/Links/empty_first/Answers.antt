use Rattle.serve_proxy.proofs.Staying.{line_lent}
use Rattle.serve_proxy.proofs.Turns.{empties_set}
use Rattle.serve_proxy.proofs.links.Links.empty_first.Goals as goal

pub returns-in-Some : goal.returns-in-Some
returns-in-Some c = record {
  emptied = empties_set c.args.self.now.all.items c.args.at c.empty_first.new.self c.empty_first.ensures.flushes;
  lines = line_lent c.args.self.now.all.items c.args.at c.in-Some.link.now c.empty_first.new.self c.in-Some.ensures.value c.empty_first.ensures.line;
}
