use Rattle.std.proofs.Common.{arith}
use Rattle.serve_proxy.proofs.Turns.{ended_more}
use Rattle.serve_proxy.proofs.links.Links.have_ended.Goals as goal

pub loop-earlier-init : goal.loop-earlier-init
loop-earlier-init c = λ e before. absurd (omega (arith, before))

pub loop-earlier-preserved : goal.loop-earlier-preserved
loop-earlier-preserved c = ended_more c.args.servers.now c.args.at c.loop-earlier.earlier c.args.self.now.all.items c.loop-earlier.invariant (c.has_left.ensures c.if-not-has_left.false)

pub returns : goal.returns
returns c = λ all e within. c.loop-earlier.invariant e (omega (arith, within))
