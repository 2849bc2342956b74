use Rattle.cache_theory.proofs.ConnectionJoined.{pieces}
use Rattle.cache_theory.proofs.connection_laws.pieces_are_one.Goals as goal

pub returns : goal.returns
returns c = pieces
