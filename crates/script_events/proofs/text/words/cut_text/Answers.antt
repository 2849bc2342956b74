use Rattle.script_events.proofs.LineLemmas.{cut_is}
use Rattle.script_events.proofs.text.words.cut_text.Goals as goal

pub returns : goal.returns
returns c = cut_is c.args.text.now _ c.split_once.ensures.cases
