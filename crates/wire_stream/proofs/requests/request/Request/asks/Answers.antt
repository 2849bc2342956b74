use Rattle.wire_stream.proofs.RequestLaws.{classic_read, meta_read}
use Rattle.wire_stream.proofs.requests.request.Request.asks.Goals as goal

pub returns-in-Classic : goal.returns-in-Classic
returns-in-Classic c bytes h = rw c.in-Classic.is (c.asks.ensures bytes (classic_read bytes c.in-Classic.request (rw c.in-Classic.is at h)))

pub returns-in-Meta : goal.returns-in-Meta
returns-in-Meta c bytes h = rw c.in-Meta.is (c.asks-in-Meta.ensures bytes (meta_read bytes c.in-Meta.request (rw c.in-Meta.is at h)))
