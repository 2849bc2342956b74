use Rattle.std.proofs.Common.{◌∙◌}
use Rattle.serve_clients.proofs.Noting.{sum_noted}
use Rattle.serve_clients.proofs.places.note_touched.Goals as goal
use Rattle.serve_clients.proofs.places.note_touched.Goals.{then-is_short, else-is_short}

pub returns-clause-total : goal.returns-clause-total
returns-clause-total c =
    elim c.if-is_short.branch [
      | then-is_short w ↦ w.total-is ∙ sum_noted c.args.all.now.items w.note_all.new.held.items w.note_all.new.flags.items w.note_all.new.total w.note_all.ensures.summed (w.note_all.ensures.exact c.requires.exact) w.note_all.ensures.noted
      | else-is_short w ↦
          w.total-is ∙ sum_noted c.args.all.now.items w.note_listed.new.held.items w.note_listed.new.flags.items w.note_listed.new.total w.note_listed.ensures.summed (w.note_listed.ensures.exact c.requires.exact)
          (λ id is. (w.note_listed.ensures.noted id is).1 (c.requires.touched.listed id (w.note_listed.ensures.noted id is).0 w.if-is_short.false))
    ]
