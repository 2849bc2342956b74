use Rattle.std.proofs.Common.{Some, None, ap, ◌∙◌}
use Rattle.serve_proxy.proofs.GivenUp.{line_goes_unless, idle_stands, idle_came, line_some, line_none}
use Rattle.serve_proxy.proofs.sockets.Sockets.read_idle.Goals as goal

pub returns-in-Some-read_line : goal.returns-in-Some-read_line
returns-in-Some-read_line g c = record {
  ends = line_goes_unless _ c.args.self.now.links.all.items c.args.at c.in-Some.link.now c.read_line.new.link c.in-Some.ensures.item.3.0 c.in-Some.ensures.value
      (idle_stands c.args.at _ _ c.in-Some.link.now c.read_line.new.link c.in-Some-read_line.got c.idle_fault.result c.idle_fault.ensures
      (λ came. idle_came c.in-Some.link.now c.read_line.new.link (c.is_idle.ensures c.if-not-is_idle.false) c.read_line.ensures.rest (c.read_line.ensures.came (c.in-Some-read_line.is ∙ ap (λ w. Some w) came))) (λ full. c.read_line.ensures.full (c.in-Some-read_line.is ∙ ap (λ w. Some w) full)) (line_some c.args.at _ c.in-Some-read_line.got c.in-Some-read_line.is (c.read_line.ensures.stands c.args.at)));
}

pub returns-in-None : goal.returns-in-None
returns-in-None g c = record {
  ends = line_goes_unless None c.args.self.now.links.all.items c.args.at c.in-Some.link.now c.read_line.new.link c.in-Some.ensures.item.3.0 c.in-Some.ensures.value (line_none c.args.at _ c.in-None.is (c.read_line.ensures.stands c.args.at));
}
