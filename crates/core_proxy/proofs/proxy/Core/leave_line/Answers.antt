use Rattle.std.proofs.Common.{List, refl, ap}
use Rattle.core_commands.specs.declared.key_lines.Standing.{Standing}
use Rattle.core_proxy.proofs.Polls.{same_goes}
use Rattle.core_proxy.proofs.proxy.Core.leave_line.Goals as goal

pub returns-clause-left : goal.returns-clause-left
returns-clause-left c =
    let old = c.args.self.now in (ap (λ (l : List Standing). record old { lines = l }) c.leave.ensures, same_goes old _ (λ n. refl) (λ n. refl) refl refl refl)
