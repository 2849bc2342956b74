use Rattle.cache_server.proofs.SoundLemmas.{sound_promoted}
use Rattle.cache_server.proofs.cache.Cache.carry_out.Goals as goal

pub invariant_of-self : goal.invariant_of-self
invariant_of-self c = rw c.promote.ensures.entries (sound_promoted c.self.inside.due c.args.key.now c.self.inside.items.entries c.self.invariant)
