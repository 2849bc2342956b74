use Rattle.std.proofs.Common.{◌≡◌, ℕ, List, sym, subst, ap, ◌∙◌, refl, arith}
use Rattle.route_tree.proofs.PlainTrees.{plan_plain}
use Rattle.gate_check.specs.declared.places.table.ClassRows.{ClassRows}
use Rattle.gate_coverage.specs.Pools.{taken_pools}
use Rattle.route_tree.specs.At.{plain_for}
use Rattle.route_tree.specs.Place.{prefix_text}
use Rattle.gate_check.specs.TableRows.{IsRowOf}
use Rattle.gate_check.specs.Proposed.{IsValidIfCovered}
use Rattle.gate_check.proofs.Proposals.{valid_if_covered}
use Rattle.gate_check.proofs.RunLists.{AreRowsBelow, rows_with, proposed_is}
use Rattle.gate_check.proofs.places.proposing.class_rows.Goals as goal

pub loop-residue-preserved : goal.loop-residue-preserved
loop-residue-preserved c =
    let residue = c.loop-residue.residue in
    let tree = c.args.tree.now in
    let class = c.args.class.now in
    let text = prefix_text class.prefix in
    let pools : c.deref.result.now ≡ taken_pools text tree = c.deref.ensures.value ∙ c.in_ok-pools.ensures ∙ ap (λ (x : List ℕ). taken_pools x tree) c.text.ensures in
    let row = subst (λ (x : List (List ℕ)). IsRowOf residue x c.put_row.new.row.items) pools c.in_ok-put_row.ensures in
    let valid = valid_if_covered text tree residue c.put_row.new.row.items (plan_plain residue text tree c.form-form.ensures.tree).good row in
    rows_with tree class.prefix c.args.modulus residue c.loop-residue.runs.items c.add_run.new.runs.items c.deref-in-loop-residue.result.now c.loop-residue.invariant
    (subst (λ (x : List ℕ). IsValidIfCovered (plain_for residue text tree) x) (sym c.deref-in-loop-residue.ensures.value) valid) c.in_ok-add_run.ensures

pub returns : goal.returns
returns c =
    let end : c.loop-residue.residue ≡ c.args.class.now.modulus = omega arith in
    let rows : ClassRows = record { modulus = c.args.class.now.modulus; runs = c.loop-residue.runs } in
    proposed_is c.args.tree.now c.args.modulus c.args.class.now rows c.requires refl
    (subst (λ (n : ℕ). AreRowsBelow c.args.tree.now c.args.class.now.prefix c.args.modulus n c.loop-residue.runs.items) end c.loop-residue.invariant)
