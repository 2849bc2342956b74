use Rattle.cache_tcp.proofs.Keys.{way_fed}
use Rattle.cache_tcp.proofs.connection.served.Served.feed.Goals as goal

pub invariant_of-self : goal.invariant_of-self
invariant_of-self c = way_fed c.feed.result c.self.inside.stream c.feed.new.self c.self.inside.answered c.args.bytes.now c.self.invariant c.feed.ensures.ok c.feed.ensures.err
