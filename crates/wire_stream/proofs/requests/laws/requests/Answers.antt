use Rattle.wire_parts.proofs.Requests.{has_laws}
use Rattle.wire_stream.specs.Laws.{both_requests}
use Rattle.wire_stream.proofs.RequestLaws.{read_still, asks_are_well_formed, asks_are_read_back, messages_are_one_ask}
use Rattle.wire_stream.proofs.requests.laws.requests.Goals as goal

pub returns : goal.returns
returns c = has_laws both_requests read_still asks_are_well_formed asks_are_read_back messages_are_one_ask
