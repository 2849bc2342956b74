use Rattle.std.proofs.Common.{sym, subst}
use Rattle.serve_links.specs.Dialects.{ReadsDialect}
use Rattle.serve_links.proofs.Ends.{reads_dialect}
use Rattle.serve_links.proofs.greeting.read_told.Goals as goal

pub returns-in-Auto : goal.returns-in-Auto
returns-in-Auto c = subst (λ d. ReadsDialect d c.args.bytes.now c.read_dialect.result) (sym c.in-Auto.is) (reads_dialect c.args.bytes.now c.read_dialect.result c.read_dialect.ensures)
