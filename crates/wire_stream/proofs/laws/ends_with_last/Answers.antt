use Rattle.wire_stream.proofs.EndsLaw.{ends_with_last}
use Rattle.wire_stream.proofs.laws.ends_with_last.Goals as goal

pub returns : goal.returns
returns c = ends_with_last
