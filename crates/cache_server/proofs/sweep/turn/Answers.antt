use Rattle.std.proofs.Common.{sym, ap, subst, ◌∙◌}
use Rattle.lru.proofs.Splits.{Contains-nil}
use Rattle.cache_server.specs.Sound.{AreDueFrom}
use Rattle.cache_server.proofs.SweepLemmas.{turn_gone, turn_kept}
use Rattle.cache_server.proofs.sweep.turn.Goals as goal

pub returns-then-is_expired-clause-entries : goal.returns-then-is_expired-clause-entries
returns-then-is_expired-clause-entries c = λ front last at.
    ap (λ s. s.entries) c.pop_lru.ensures.entries
    ∙ (turn_gone c.args.now c.args.items.now.entries front (c.in-Some.key.now, c.in-Some.entry.now) last c.in-Some.ensures (sym c.is_expired.ensures ∙ c.if-is_expired.true) at).0

pub returns-then-is_expired-clause-due : goal.returns-then-is_expired-clause-due
returns-then-is_expired-clause-due c = λ front last at.
    subst (AreDueFrom c.args.due)
    (sym (turn_gone c.args.now c.args.items.now.entries front (c.in-Some.key.now, c.in-Some.entry.now) last c.in-Some.ensures (sym c.is_expired.ensures ∙ c.if-is_expired.true) at).1)
    (λ e none. absurd (Contains-nil e none))

pub returns-clause-entries : goal.returns-clause-entries
returns-clause-entries c = λ front last at.
    ap (λ s. s.entries) c.promote.ensures.entries
    ∙ (turn_kept c.args.now c.args.due c.args.items.now.entries front (c.in-Some.key.now, c.in-Some.entry.now) last c.len.ensures.valid.0 c.in-Some.ensures (sym c.is_expired.ensures ∙ c.if-is_expired.false) at).0

pub returns-clause-due : goal.returns-clause-due
returns-clause-due c = λ front last at.
    rw c.due_before-due.ensures
    (turn_kept c.args.now c.args.due c.args.items.now.entries front (c.in-Some.key.now, c.in-Some.entry.now) last c.len.ensures.valid.0 c.in-Some.ensures (sym c.is_expired.ensures ∙ c.if-is_expired.false) at).1
