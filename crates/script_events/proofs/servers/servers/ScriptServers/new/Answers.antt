use Rattle.std.proofs.Common.{◌≡◌, refl, ap, subst, arith, ◌++◌, ◌∷◌, [], ap₂, replicate, option_map, ◌∙◌}
use Rattle.std.specs.Ordering.{nat_cmp}
use Rattle.std.specs.Map.{lookup}
use Rattle.std.specs.BTreeMap.{is_at}
use Rattle.std.proofs.lemmas.List.{replicate_more}
use Rattle.cache_server.specs.Contents.{empty}
use Rattle.script_events.specs.Limits.{capacity}
use Rattle.script_events.specs.Caches.{entry_losses}
use Rattle.script_events.specs.Servers.{manner_of}
use Rattle.script_events.proofs.servers.servers.ScriptServers.new.Goals as goal

pub loop-place-preserved : goal.loop-place-preserved
loop-place-preserved c =
    c.in_ok-push.ensures.items
    ∙ ap₂ (λ l x. l ++ x ∷ []) c.loop-place.invariant c.in_ok-new.ensures
    ∙ replicate_more c.loop-place._place (empty capacity)

pub returns : goal.returns
returns c =
    let all : c.loop-place._place ≡ c.args.servers = omega (arith, c.loop-place-test.false, c.loop-place.auto._place-end) in
    record {
      caches = subst (λ n. c.loop-place.caches.items ≡ replicate n (empty capacity)) all c.loop-place.invariant;
      turn = refl;
      moment = refl;
      named = λ t. ap (λ es. option_map manner_of (lookup (is_at (nat_cmp t)) es)) c.new-2.ensures.empty;
      lost = λ t. ap (λ es. entry_losses (lookup (is_at (nat_cmp t)) es)) c.new-3.ensures.empty;
    }
