use Rattle.wire_stream.proofs.RequestLaws.{classic_read, meta_read}
use Rattle.wire_stream.proofs.requests.request.Request.walk.Goals as goal

pub returns-in-Classic-clause-walk : goal.returns-in-Classic-clause-walk
returns-in-Classic-clause-walk c bytes h = c.walk.ensures.walk bytes (classic_read bytes c.in-Classic.request (rw c.in-Classic.is at h))

pub returns-in-Meta-clause-walk : goal.returns-in-Meta-clause-walk
returns-in-Meta-clause-walk c bytes h = meta_read bytes c.in-Meta.request (rw c.in-Meta.is at h)
