use Rattle.wire_stream.proofs.RequestLaws.{ok_some_as}
use Rattle.wire_stream.proofs.requests.request.Asks.next.Goals as goal

pub returns-in-Classic-clause-ask : goal.returns-in-Classic-clause-ask
returns-in-Classic-clause-ask c = ok_some_as _ c.next.ensures.ask
