use Rattle.std.proofs.Common.{cond, Some, sym, ap, ◌∙◌}
use Rattle.std.specs.Cmp.Lexicographic.{texts_ties}
use Rattle.script_run.specs.Counting.{last_delete_of}
use Rattle.script_run.proofs.driver.counting.Counts.note.Goals as goal

pub returns-in-Ok-clause-last : goal.returns-in-Ok-clause-last
returns-in-Ok-clause-last c = λ k. c.in-Ok.ensures.updates.0 k ∙ ap (λ b. cond b (Some c.args.number) (last_delete_of c.args.self.now k)) (sym (texts_ties c.args.key.now k))
