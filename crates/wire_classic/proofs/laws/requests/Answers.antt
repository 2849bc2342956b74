use Rattle.wire_parts.proofs.Requests.{has_laws}
use Rattle.wire_classic.specs.Laws.{classic_requests}
use Rattle.wire_classic.proofs.StreamLemmas.{read_still}
use Rattle.wire_classic.proofs.AskLemmas.{asks_are_well_formed}
use Rattle.wire_classic.proofs.Back.{asks_are_read_back}
use Rattle.wire_classic.proofs.OneAsk.{messages_are_one_ask}
use Rattle.wire_classic.proofs.laws.requests.Goals as goal

pub returns : goal.returns
returns c = has_laws classic_requests read_still asks_are_well_formed asks_are_read_back messages_are_one_ask
