use Rattle.std.proofs.Common.{◌∙◌, ap, sym, subst, ◌↔◌, ℕ, IsTrue, is_some}
use Rattle.mc_types.specs.Agree.{CountsTo}
use Rattle.examples_parts.proofs.Counting.{counts_is}
use Rattle.examples_parts.proofs.agree.counts.Goals as goal

pub returns : goal.returns
returns c = subst (λ b. IsTrue b ↔ (n : ℕ) × CountsTo c.args.ask.now c.args.held.now n) (sym (c.is_some.ensures ∙ ap is_some c.count_of.ensures)) (counts_is c.args.ask.now c.args.held.now)
