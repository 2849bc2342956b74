use Rattle.std.proofs.Common.{◌≡◌, ◌∙◌, List, ℕ, true, ap, sym, subst}
use Rattle.route_tree.specs.At.{plain_for}
use Rattle.route_tree.specs.Place.{prefix_text}
use Rattle.gate_coverage.specs.Pools.{servers_at}
use Rattle.gate_check.specs.Looking.{IfGap}
use Rattle.gate_check.specs.Rows.{HoldsTaken, IsTakenRow, all_cleared}
use Rattle.gate_check.proofs.RowTests.{cleared_covers, good_plain, holds_what_is_taken}
use Rattle.gate_check.proofs.finding.gap_at.Goals as goal

pub returns-then-are_pools_cleared : goal.returns-then-are_pools_cleared
returns-then-are_pools_cleared c =
    let r = c.args.residue in
    let text = prefix_text c.args.class.now.prefix in
    let e = c.args.earlier.now in
    let l = c.args.later.now in
    let all : all_cleared (plain_for r text e) (servers_at r c.args.doubted.now) ≡ true = sym (c.are_pools_cleared.ensures ∙ ap (λ (x : List ℕ). all_cleared (plain_for r x e) (servers_at r c.args.doubted.now)) c.text.ensures) ∙ c.if-are_pools_cleared.true in
    cleared_covers text r e l c.form-earlier.ensures.tree c.form-later.ensures.tree (subst (λ (ps : List (List ℕ)). all_cleared (plain_for r text e) (servers_at r ps) ≡ true) c.requires all)

pub first_gap-requires : goal.first_gap-requires
first_gap-requires c =
    let r = c.args.residue in
    let text = prefix_text c.args.class.now.prefix in
    let l = c.args.later.now in
    let row : IsTakenRow (plain_for r text l) c.deref-2.result.now =
    subst (λ (x : List ℕ). IsTakenRow (plain_for r text l) x) (sym c.deref-2.ensures.value) (subst (λ (x : List ℕ). IsTakenRow (plain_for r x l) c.take_row.new.row.items) c.text-3.ensures c.in_ok-take_row.ensures) in
    subst (λ (x : List ℕ). HoldsTaken (plain_for r x l) c.deref-2.result.now) (sym c.text-4.ensures) (holds_what_is_taken (plain_for r text l) (good_plain l text r c.form-later.ensures.tree) c.deref-2.result.now row)

pub returns : goal.returns
returns c =
    subst (λ (x : List ℕ). IfGap (plain_for c.args.residue x c.args.earlier.now) (plain_for c.args.residue x c.args.later.now) c.first_gap.result) c.text-4.ensures c.first_gap.ensures
