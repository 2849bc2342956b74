use Rattle.mcgate_args.proofs.StopLemmas.{calls_line_is}
use Rattle.mcgate_args.proofs.ends.calls_line.Goals as goal

pub returns : goal.returns
returns c = calls_line_is
