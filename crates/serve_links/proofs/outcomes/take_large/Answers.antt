use Rattle.std.proofs.Common.{List, ℕ, drop, sym, ap}
use Rattle.serve_links.proofs.Walked.{then}
use Rattle.serve_links.proofs.Leaving.{over, both, between}
use Rattle.serve_links.proofs.outcomes.take_large.Goals as goal

pub returns-then-used-eq0-clause-core : goal.returns-then-used-eq0-clause-core
returns-then-used-eq0-clause-core c = then c.settle_in-used.ensures.core c.take_copied-then-used-eq0.ensures.core

pub returns-then-used-eq0-clause-settled : goal.returns-then-used-eq0-clause-settled
returns-then-used-eq0-clause-settled c =
    let rest = ap (λ (l : List ℕ). drop c.settle_in-used.result.0 l) (sym c.shared.ensures) in
    both (between c.in-Some.ensures.front c.hold_any.ensures.held (over c.cut_front.new.conn.held.items (between (sym c.shared.ensures) rest c.settle_in-used.ensures.settled))) c.take_copied-then-used-eq0.ensures.settled

pub returns-clause-settled : goal.returns-clause-settled
returns-clause-settled c =
    let rest = ap (λ (l : List ℕ). drop c.settle_in-used.result.0 l) (sym c.shared.ensures) in
    between c.in-Some.ensures.front c.hold_any.ensures.held (over c.cut_front.new.conn.held.items (between (sym c.shared.ensures) rest c.settle_in-used.ensures.settled))
