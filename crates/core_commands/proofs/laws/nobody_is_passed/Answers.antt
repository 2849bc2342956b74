use Rattle.core_commands.proofs.Lines.{nobody_is_passed}
use Rattle.core_commands.proofs.laws.nobody_is_passed.Goals as goal

pub returns : goal.returns
returns c = nobody_is_passed
