use Rattle.std.proofs.Common.{◌≡◌, Some, refl, sym, ◌∙◌}
use Rattle.serve_links.specs.declared.calls.calls.Left.{Left}
use Rattle.serve_links.specs.declared.calls.calls.Next.TheVariants as nexts
use Rattle.serve_links.proofs.Walked.{by_settle_next}
use Rattle.serve_links.proofs.Leaving.{settles_as, awaited, some_held, foreign, none, one}
use Rattle.serve_links.proofs.outcomes.take_copied.Goals as goal

same_left : {a b : Left} → Some a ≡ Some b → a ≡ b
same_left e = cc

pub returns-then-is_empty-clause-settled : goal.returns-then-is_empty-clause-settled
returns-then-is_empty-clause-settled c = none refl refl refl

pub returns-in-Settled-clause-core : goal.returns-in-Settled-clause-core
returns-in-Settled-clause-core c = by_settle_next c.args.calls.now.sent.items c.copied.result c.settle_next.result c.settle_next.new.self.sent.items c.args.core.now c.settle_next.new.core c.settle_next.ensures.settles

pub returns-in-Settled-clause-settled : goal.returns-in-Settled-clause-settled
returns-in-Settled-clause-settled c =
    let sent = c.args.calls.now.sent.items in
    let held = c.args.conn.now.held.items in
    let sent' = c.settle_next.new.self.sent.items in
    let same : held ≡ c.copied.result = cc in
    let is = settles_as sent c.copied.result held c.args.core.now (nexts.Settled c.in-Settled.client c.in-Settled.used) sent' c.settle_next.new.core same c.in-Settled.ensures.settles in
    one sent held c.args.core.now c.in-Settled.client c.in-Settled.used sent' c.use_up.new.self.held.items c.settle_next.new.core c.use_up.ensures.held is

pub returns-in-Left-clause-core : goal.returns-in-Left-clause-core
returns-in-Left-clause-core c = by_settle_next c.args.calls.now.sent.items c.copied.result c.settle_next.result c.settle_next.new.self.sent.items c.args.core.now c.settle_next.new.core c.settle_next.ensures.settles

pub returns-in-Left-clause-left : goal.returns-in-Left-clause-left
returns-in-Left-clause-left c =
    let held = c.args.conn.now.held.items in
    let same : held ≡ c.copied.result = cc in
    let sent' = c.settle_next.new.self.sent.items in
    λ is. awaited c.args.calls.now.sent.items held c.args.core.now c.in-Left.left sent' c.settle_next.new.core (same_left is) (settles_as c.args.calls.now.sent.items c.copied.result held c.args.core.now (nexts.Left c.in-Left.left) sent' c.settle_next.new.core same c.in-Left.ensures.settles)

pub returns-in-Left-clause-foreign : goal.returns-in-Left-clause-foreign
returns-in-Left-clause-foreign c =
    let held = c.args.conn.now.held.items in
    let same : held ≡ c.copied.result = cc in
    let sent' = c.settle_next.new.self.sent.items in
    λ is. foreign c.args.calls.now.sent.items held c.args.core.now c.in-Left.left sent' c.settle_next.new.core (some_held held (sym c.is_empty.ensures ∙ c.if-is_empty.false)) (same_left is) (settles_as c.args.calls.now.sent.items c.copied.result held c.args.core.now (nexts.Left c.in-Left.left) sent' c.settle_next.new.core same c.in-Left.ensures.settles)

pub returns-in-Left-clause-settled : goal.returns-in-Left-clause-settled
returns-in-Left-clause-settled c = none c.in-Left.ensures.settles.1 refl c.in-Left.ensures.settles.2
