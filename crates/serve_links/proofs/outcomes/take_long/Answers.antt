use Rattle.std.proofs.Common.{◌≡◌, ℕ, ◌≤◌, List, [], ◌++◌, Some, length, drop, sym, ap, ◌∙◌, subst, arith}
use Rattle.std.proofs.lemmas.List.{drop_all, append-nil}
use Rattle.serve_links.specs.declared.calls.calls.Left.{Left}
use Rattle.serve_links.specs.Settled.{HoldsNoAnswer}
use Rattle.serve_links.proofs.Leaving.{over, between, foreign_over, foreign_as}
use Rattle.serve_links.proofs.outcomes.take_long.Goals as goal

at_end : (len : ℕ) (held : List ℕ) → len ≡ length held → length held ≤ len
at_end len held is = omega (arith, is)

same_left : {a b : Left} → Some a ≡ Some b → a ≡ b
same_left e = cc

pub returns-clause-settled : goal.returns-clause-settled
returns-clause-settled c =
    let rest = ap (λ (l : List ℕ). drop c.settle_in-used.result.0 l) (sym c.shared.ensures) in
    between c.in-Some.ensures.front c.hold_rest.ensures.held (over c.cut_front.new.conn.held.items (between (sym c.shared.ensures) rest c.settle_in-used.ensures.settled))

pub returns-clause-left : goal.returns-clause-left
returns-clause-left c =
    let none : c.cut_front.new.conn.held.items ≡ [] = c.in-Some.ensures.left ∙ drop_all c.len-held.result c.args.conn.now.held.items (at_end c.len-held.result c.args.conn.now.held.items c.len-held.ensures.value) in
    let rest = ap (λ (l : List ℕ). drop c.settle_in-used.result.0 l) (sym c.shared.ensures) in
    λ is. subst (λ (l : List ℕ). HoldsNoAnswer c.settle_in-used.new.calls.sent.items l c.settle_in-used.new.core)
    (sym (c.hold_rest.ensures.held ∙ ap (λ (l : List ℕ). drop c.settle_in-used.result.0 c.in-Some.front ++ l) none ∙ append-nil (drop c.settle_in-used.result.0 c.in-Some.front) ∙ rest))
    (c.settle_in-used.ensures.left (c.left_after.ensures.begun (same_left is)))

pub returns-clause-foreign : goal.returns-clause-foreign
returns-clause-foreign c =
    let rest = ap (λ (l : List ℕ). drop c.settle_in-used.result.0 l) (sym c.shared.ensures) in
    λ is. foreign_as c.hold_rest.ensures.held
    (foreign_over c.settle_in-used.new.calls.sent.items (drop c.settle_in-used.result.0 c.in-Some.front) c.cut_front.new.conn.held.items c.settle_in-used.new.core (foreign_as rest (c.settle_in-used.ensures.foreign (c.left_after.ensures.foreign (same_left is)))))
