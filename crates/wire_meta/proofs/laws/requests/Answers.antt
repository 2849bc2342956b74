use Rattle.wire_parts.proofs.Requests.{has_laws}
use Rattle.wire_meta.specs.Laws.{meta_requests}
use Rattle.wire_meta.proofs.Front.{read_still}
use Rattle.wire_meta.proofs.Sound.{asks_are_well_formed}
use Rattle.wire_meta.proofs.Back.{asks_are_read_back, messages_are_one_ask}
use Rattle.wire_meta.proofs.laws.requests.Goals as goal

pub returns : goal.returns
returns c = has_laws meta_requests read_still asks_are_well_formed asks_are_read_back messages_are_one_ask
