use Rattle.std.proofs.Common.{refl}
use Rattle.serve_proxy.proofs.Staying.{line_lent}
use Rattle.serve_proxy.proofs.links.Links.mark_output.Goals as goal

pub returns-then-not-link : goal.returns-then-not-link
returns-then-not-link c = record { lines = line_lent c.args.self.now.all.items c.args.at c.in-Some.link.now _ c.in-Some.ensures.value refl }
