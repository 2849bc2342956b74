use Rattle.std.proofs.Common.{sym, ap, subst, ◌∙◌}
use Rattle.cache_server.specs.Contents.{Contents, Entries, at_moment}
use Rattle.cache_server.specs.Sound.{AreDueFrom}
use Rattle.cache_server.proofs.SoundLemmas.{all_live, sound_live}
use Rattle.cache_server.proofs.cache.Cache.expire.Goals as goal

pub returns-then-now-self : goal.returns-then-now-self
returns-then-now-self c =
    let same = all_live c.args.now c.self.inside.due c.self.inside.items.entries c.self.invariant.due_from c.if-now-self.true in
    sym c.self.view_is
    ∙ ap (λ (es : Entries). let out : Contents = record { entries = es; cap = c.self.inside.items.cap; counter = c.self.inside.counter } in out) same
    ∙ ap (at_moment c.args.now) c.self.view_is

pub invariant_of-self : goal.invariant_of-self
invariant_of-self c =
    let left = ap (λ s. s.entries) c.sweep-self-inside.ensures.entries in
    rw left
    (sound_live c.sweep-self-inside.result c.args.now c.self.inside.items.entries c.self.invariant.entries_are
    (subst (AreDueFrom c.sweep-self-inside.result) left c.sweep-self-inside.ensures.due))
