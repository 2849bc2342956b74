use Rattle.cache_server.proofs.SoundLemmas.{sound_put}
use Rattle.cache_server.proofs.cache.Cache.put.Goals as goal

pub invariant_of-self-2 : goal.invariant_of-self-2
invariant_of-self-2 c =
    rw (c.in_ok-put.ensures.entries, c.due_before-due.ensures)
    (sound_put c.self.inside.due c.args.key c.args.entry c.self.inside.items.cap c.self.inside.items.entries c.self.invariant c.requires)
