use Rattle.std.proofs.Common.{ap, ◌∙◌}
use Rattle.std.specs.Prelude.{slice_set}
use Rattle.serve_clients.proofs.Noting.{exact_noted}
use Rattle.serve_clients.proofs.places.note_at.Goals as goal

pub returns-clause-exact : goal.returns-clause-exact
returns-clause-exact c =
    exact_noted c.args.all.now.items c.args.held.now.items c.note.new.held.items c.args.flags.now.items c.clear.new.flags.items c.args.id c.requires.held_len (c.note.ensures.note ∙ ap (slice_set c.args.held.now.items c.args.id) c.held_there.ensures) c.clear.ensures
