use Rattle.std.proofs.Common.{◌≡◌, sym, subst, rules}
use Rattle.std.specs.List.{IsDistinct}
use Rattle.std.specs.Map.{keys_of}
use Rattle.cache_server.specs.Contents.{Contents, same_key, storing_item, opening}
use Rattle.cache_server.specs.Held.{IsHold}
use Rattle.cache_server.proofs.CallLemmas.{hold_is, on_ok}
use Rattle.cache_server.proofs.cache.Cache.hold.Goals as goal

pub returns-clause-held : goal.returns-clause-held
returns-clause-held c =
    let distinct = subst (λ (n : Contents). IsDistinct same_key (keys_of n.entries)) c.self.view_is c.keys_differ.ensures in
    let key = c.args.key.now in
    let body = c.args.body.now in
    on_ok c.store.result (c.store.new.self ≡ storing_item c.args.self.now key (opening body)) (IsHold key body c.args.self.now c.store.new.self)
    (λ is. subst (IsHold key body c.args.self.now) (sym is) (hold_is c.args.self.now key body distinct))
    (search rules)
