use Rattle.script_events.proofs.LinesReadBack.{scripts_are_read_back}
use Rattle.script_events.proofs.text.lines.laws.scripts_are_read_back.Goals as goal

pub returns : goal.returns
returns c = scripts_are_read_back
