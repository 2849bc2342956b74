use Rattle.std.proofs.Common.{◌≡◌, ℕ, ◌+◌, ◌-◌, ◌^◌, ◌≤◌, List, length, drop, refl, sym, ap, ◌∙◌, arith}
use Rattle.std.proofs.lemmas.List.{drop-drop, drop_min}
use Rattle.serve_links.specs.declared.calls.calls.Left.{Left}
use Rattle.serve_links.specs.declared.calls.calls.Next.TheVariants as nexts
use Rattle.serve_links.specs.declared.outcomes.HeldStop.TheVariants as stops
use Rattle.serve_clients.proofs.Agreeing.{keeps_none, keeps_twice}
use Rattle.serve_links.proofs.Walked.{still, then, by_settle_next}
use Rattle.serve_links.proofs.Leaving.{settles_as, awaited, some_held, foreign, none, both, one, drop_few}
use Rattle.serve_links.proofs.outcomes.settle_in.Goals as goal

same_left : {a b : Left} → stops.Left a ≡ stops.Left b → a ≡ b
same_left e = cc

pub loop-init : goal.loop-init
loop-init c = record { core = still refl; settled = none refl refl refl; ends = keeps_none c.args.clients.now }

pub loop-preserved : goal.loop-preserved
loop-preserved c =
    let bytes = c.args.received.now in
    let sent = c.loop.calls.sent.items in
    let sent' = c.settle_next.new.self.sent.items in
    let used = c.saturating_add-used.ensures in
    let len = ap (λ (l : List ℕ). length l) c.bytes-end.ensures in
    let fits : length bytes ≤ 2 ^ 64 - 1 = omega arith in
    let rest = ap (λ (n : ℕ). drop n bytes) used ∙ drop_few (c.loop.used + c.in-Settled.len) (2 ^ 64 - 1) bytes fits ∙ sym (drop-drop c.in-Settled.len c.loop.used bytes) in
    let few = drop_min c.loop.used bytes in
    let same : drop c.loop.used bytes ≡ c.after-rest.result = cc in
    record {
      core = then c.loop.invariant.core (by_settle_next sent c.after-rest.result c.settle_next.result sent' c.loop.core c.settle_next.new.core c.settle_next.ensures.settles);
      settled = both c.loop.invariant.settled (one sent (drop c.loop.used bytes) c.loop.core c.in-Settled.client c.in-Settled.len sent' (drop c.saturating_add-used.result bytes) c.settle_next.new.core rest (settles_as sent c.after-rest.result (drop c.loop.used bytes) c.loop.core (nexts.Settled c.in-Settled.client c.in-Settled.len) sent' c.settle_next.new.core same c.in-Settled.ensures.settles));
      ends = keeps_twice c.args.clients.now c.loop.clients c.mark_answered.new.self c.loop.invariant.ends c.mark_answered.ensures.ends;
    }

pub returns-in-Left-clause-core : goal.returns-in-Left-clause-core
returns-in-Left-clause-core c = then c.loop.invariant.core (by_settle_next c.loop.calls.sent.items c.after-rest.result c.settle_next.result c.settle_next.new.self.sent.items c.loop.core c.settle_next.new.core c.settle_next.ensures.settles)

pub returns-in-Left-clause-left : goal.returns-in-Left-clause-left
returns-in-Left-clause-left c =
    let bytes = c.args.received.now in
    let few = drop_min c.loop.used bytes in
    let same : drop c.loop.used bytes ≡ c.after-rest.result = cc in
    λ is. awaited c.loop.calls.sent.items (drop c.loop.used bytes) c.loop.core c.in-Left.left c.settle_next.new.self.sent.items c.settle_next.new.core (same_left is)
    (settles_as c.loop.calls.sent.items c.after-rest.result (drop c.loop.used bytes) c.loop.core (nexts.Left c.in-Left.left) c.settle_next.new.self.sent.items c.settle_next.new.core same c.in-Left.ensures.settles)

pub returns-in-Left-clause-foreign : goal.returns-in-Left-clause-foreign
returns-in-Left-clause-foreign c =
    let bytes = c.args.received.now in
    let few = drop_min c.loop.used bytes in
    let same : drop c.loop.used bytes ≡ c.after-rest.result = cc in
    λ is. foreign c.loop.calls.sent.items (drop c.loop.used bytes) c.loop.core c.in-Left.left c.settle_next.new.self.sent.items c.settle_next.new.core
    (λ none. some_held _ (sym c.is_empty.ensures ∙ c.if-is_empty.false) (c.bytes.ensures ∙ sym same ∙ none)) (same_left is)
    (settles_as c.loop.calls.sent.items c.after-rest.result (drop c.loop.used bytes) c.loop.core (nexts.Left c.in-Left.left) c.settle_next.new.self.sent.items c.settle_next.new.core same c.in-Left.ensures.settles)
