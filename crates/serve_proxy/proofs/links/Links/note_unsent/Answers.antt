use Rattle.std.proofs.Common.{refl}
use Rattle.serve_proxy.proofs.Staying.{line_lent}
use Rattle.serve_proxy.proofs.links.Links.note_unsent.Goals as goal

pub returns-in-Some : goal.returns-in-Some
returns-in-Some c = record { lines = line_lent c.args.self.now.all.items c.args.at c.in-Some.link.now _ c.in-Some.ensures.value refl }
