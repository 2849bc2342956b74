use Rattle.std.proofs.Common.{ap}
use Rattle.cache_tcp.proofs.Oldest.{loses_none, loses_one, fewer_left}
use Rattle.cache_tcp.proofs.room.Room.fit.Goals as goal

pub loop-self-init : goal.loop-self-init
loop-self-init c = loses_none c.args.self.now.sizes.entries c.args.cache.now

pub loop-self-preserved : goal.loop-self-preserved
loop-self-preserved c =
    let l = c.loop-self in
    loses_one c.args.self.now.sizes.entries l.self.sizes.entries c.pop_lru.new.self.entries c.in-Some.last c.args.cache.now l.cache c.lose.new.self l.invariant c.in-Some.ensures.value (ap (λ s. s.entries) c.in-Some.ensures.entries) c.lose.ensures.lost

pub loop-self-smaller : goal.loop-self-smaller
loop-self-smaller c = fewer_left c.loop-self.self.sizes.entries c.pop_lru.new.self.entries c.in-Some.last c.in-Some.ensures.value (ap (λ s. s.entries) c.in-Some.ensures.entries)
