use Rattle.std.proofs.Common.{◌≡◌, ◌<◌, ◌^◌, nat_abs, sym, subst, rules, IfOk, OnErr}
use Rattle.std.specs.List.{IsDistinct}
use Rattle.std.specs.Map.{keys_of}
use Rattle.cache_server.specs.Contents.{Contents, same_key, at_moment}
use Rattle.cache_server.specs.Sound.{AreEntries}
use Rattle.cache_server.specs.Table.{Applies}
use Rattle.cache_server.specs.Held.{holds, IsServerCall, IsLoss, keys_lost_by, expired_keys}
use Rattle.cache_server.proofs.CallLemmas.{call_is, expired_is, if_ok, on_err}
use Rattle.cache_server.proofs.cache.Cache.apply.Goals as goal

pub returns-clause-call : goal.returns-clause-call
returns-clause-call c =
    let old = c.args.self.now in
    let distinct = subst (λ (n : Contents). IsDistinct same_key (keys_of n.entries)) c.self.view_is c.keys_differ.ensures in
    let are = subst (λ (n : Contents). AreEntries n.entries) c.self.view_is c.self.invariant.entries_are in
    let now = nat_abs c.args.moment in
    let small : now < 2 ^ 63 = search rules in
    let done : IfOk c.serve.result (λ r. Applies c.args.moment c.args.stamp c.args.ask.now old r.0 r.1 c.serve.new.self) = search rules in
    if_ok c.serve.result (λ r. Applies c.args.moment c.args.stamp c.args.ask.now old r.0 r.1 c.serve.new.self)
    (λ r. IsServerCall c.args.stamp c.args.ask.now (holds old) (keys_lost_by now c.args.stamp c.args.ask.now old) r.0 r.1 (holds c.serve.new.self))
    (λ r serves. call_is now c.args.stamp c.args.ask.now old r.0 r.1 c.serve.new.self small c.requires.ask are distinct serves)
    done

pub returns-clause-lost : goal.returns-clause-lost
returns-clause-lost c =
    let old = c.args.self.now in
    let distinct = subst (λ (n : Contents). IsDistinct same_key (keys_of n.entries)) c.self.view_is c.keys_differ.ensures in
    let now = nat_abs c.args.moment in
    let undone : OnErr c.serve.result (c.serve.new.self ≡ at_moment now old) = search rules in
    on_err c.serve.result (c.serve.new.self ≡ at_moment now old) (IsLoss (expired_keys now old.entries) old c.serve.new.self)
    (λ is. subst (IsLoss (expired_keys now old.entries) old) (sym is) (expired_is now old distinct))
    undone
