use Rattle.std.proofs.Common.{◌≡◌, [], ◌∷◌, ap, sym, subst, ◌∙◌}
use Rattle.std.specs.List.{IsDistinct}
use Rattle.std.specs.Map.{keys_of}
use Rattle.cache_server.specs.Contents.{Contents, same_key, losing}
use Rattle.cache_server.specs.Held.{IsLoss}
use Rattle.cache_server.proofs.SoundLemmas.{sound_remove}
use Rattle.cache_server.proofs.CallLemmas.{loss_is}
use Rattle.cache_server.proofs.cache.Cache.lose.Goals as goal

pub invariant_of-self : goal.invariant_of-self
invariant_of-self c = rw c.pop.ensures.entries (sound_remove c.self.inside.due c.args.key.now c.self.inside.items.entries c.self.invariant)

pub returns-clause-lost : goal.returns-clause-lost
returns-clause-lost c =
    let distinct = subst (λ (n : Contents). IsDistinct same_key (keys_of n.entries)) c.self.view_is c.keys_differ.ensures in
    let left : Contents = record { entries = c.pop.new.self.entries; cap = c.pop.new.self.cap; counter = c.self.inside.counter } in
    let is : left ≡ losing c.args.self.now c.args.key.now =
    ap (λ s. let n : Contents = record { entries = s.entries; cap = s.cap; counter = c.self.inside.counter } in n) c.pop.ensures.entries
    ∙ ap (λ (n : Contents). losing n c.args.key.now) c.self.view_is in
    subst (IsLoss (c.args.key.now ∷ []) c.args.self.now) (sym is) (loss_is c.args.self.now c.args.key.now distinct)
