use Rattle.script_events.proofs.ReadBack.{escapes_are_read_back}
use Rattle.script_events.proofs.text.laws.escapes_are_read_back.Goals as goal

pub returns : goal.returns
returns c = escapes_are_read_back
