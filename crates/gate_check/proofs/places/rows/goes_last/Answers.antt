use Rattle.std.proofs.Common.{◌≡◌, ◌<◌, ◌+◌, ◌-◌, length, arith}
use Rattle.std.proofs.lemmas.Bool.{leb-true}
use Rattle.gate_check.proofs.Proposals.{below_last}
use Rattle.gate_check.proofs.SortedRows.{rise_more}
use Rattle.gate_check.proofs.places.rows.goes_last.Goals as goal

pub returns : goal.returns
returns c = λ t rising.
    let row = c.args.row.now in
    let n = length row - 1 in
    let below : c.index-row-row.result < c.args.server = (let k : c.number.result < c.number-2.result = leb-true _ _ t in let a = c.number.ensures in let b = c.number-2.ensures in omega (arith, k, a, b)) in
    let some : n + 1 ≡ length row = (let e = c.if-is_empty.false in let m = c.is_empty.ensures in grind (arith, e, m)) in
    rise_more row c.args.server (below_last row n c.args.server c.index-row-row.result rising some c.index-row-row.is below) rising
