use Rattle.std.proofs.Common.{refl, ◌∙◌, arith}
use Rattle.serve_proxy.proofs.Turns.{one_more}
use Rattle.serve_proxy.proofs.links.Links.keep_epochs.Goals as goal

pub loop-at-init : goal.loop-at-init
loop-at-init c = record { turns = λ at before. absurd (omega (arith, before)); lines = refl }

pub loop-at-preserved : goal.loop-at-preserved
loop-at-preserved c = record {
  turns = one_more c.args.servers.now c.loop-at.at c.keep_epoch.ensures.retired.0 c.loop-at.self.all.items c.keep_epoch.new.self.all.items c.keep_epoch.ensures.retired.1 c.keep_epoch.ensures.turn c.loop-at.invariant.turns;
  lines = c.keep_epoch.ensures.lines ∙ c.loop-at.invariant.lines;
}

pub returns-clause-turns : goal.returns-clause-turns
returns-clause-turns c = λ some at within. c.loop-at.invariant.turns at (omega (arith, within, c.len-at-end.ensures.len))
