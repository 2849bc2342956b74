use Rattle.wire_stream.proofs.RequestLaws.{meta_read}
use Rattle.wire_stream.proofs.requests.request.Request.quiet.Goals as goal

pub returns-in-Meta : goal.returns-in-Meta
returns-in-Meta c bytes h = rw c.in-Meta.is (c.quiet-in-Meta.ensures bytes (meta_read bytes c.in-Meta.request (rw c.in-Meta.is at h)))
