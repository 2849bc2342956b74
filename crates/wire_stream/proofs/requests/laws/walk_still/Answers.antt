use Rattle.wire_stream.proofs.RequestLaws.{walk_still}
use Rattle.wire_stream.proofs.requests.laws.walk_still.Goals as goal

pub returns : goal.returns
returns c = walk_still
