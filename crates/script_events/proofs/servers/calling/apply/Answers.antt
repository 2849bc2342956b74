use Rattle.std.proofs.Common.{◌≡◌, ℤ, refl, ap, ◌∙◌, subst, arith, to_z, of_z, w64}
use Rattle.std.proofs.Math.Facts.{to_z-of_z}
use Rattle.std.specs.Prelude.{nat_abs, slice_set}
use Rattle.cache_server.specs.Contents.{at_moment}
use Rattle.script_events.proofs.Calls.{if_both, on_err}
use Rattle.script_events.specs.Calling.{AppliesAt}
use Rattle.script_events.proofs.Calls.{applied, changed}
use Rattle.script_events.proofs.servers.calling.apply.Goals as goal

pub returns-clause-ok : goal.returns-clause-ok
returns-clause-ok c =
    let moment : ℤ = to_z w64 (of_z w64 c.args.moment.seconds) in
    let now : moment ≡ c.args.moment.seconds = grind (arith, to_z-of_z) in
    let old = c.args.caches.now.items in
    let x = c.index_mut.result.now in
    let y = c.apply.new.self in
    let new = slice_set old c.number.result y in
    if_both c.apply.result _ _ _
    (λ r applies call. subst (λ m. AppliesAt c.args.stamp m old c.args.server c.args.ask.now r.0 r.1 new) now (applied moment c.args.stamp old new c.args.server c.number.result c.args.ask.now x y r.0 r.1 c.number.ensures c.requires.there c.index_mut.ensures.value refl applies call))
    c.apply.ensures.ok c.apply.ensures.call

pub returns-clause-err : goal.returns-clause-err
returns-clause-err c =
    let moment : ℤ = to_z w64 (of_z w64 c.args.moment.seconds) in
    let now : moment ≡ c.args.moment.seconds = grind (arith, to_z-of_z) in
    let x = c.index_mut.result.now in
    on_err c.apply.result _ _
    (λ is. changed (at_moment (nat_abs c.args.moment.seconds)) c.args.caches.now.items c.args.server c.number.result x c.apply.new.self c.number.ensures c.requires.there c.index_mut.ensures.value (is ∙ ap (λ m. at_moment (nat_abs m) x) now))
    c.apply.ensures.err
