use Rattle.std.proofs.Common.{◌<◌, length, ◌∙◌, sym, arith}
use Rattle.std.proofs.lemmas.Bool.Decides.{Decides-eqb}
use Rattle.std.proofs.lemmas.Slice.Eq.{slice_eq-Decides}
use Rattle.gate_check.proofs.places.proposing.is_last.Goals as goal

pub returns-then-not-is_empty : goal.returns-then-not-is_empty
returns-then-not-is_empty c =
    let e = slice_eq-Decides Decides-eqb c.last_servers.result.now c.args.servers.now c.eq.result c.eq.ensures in
    let l = c.last_servers.ensures in
    let some : 0 < length c.args.runs.now = (let n = c.if-not-is_empty.true in let m = c.is_empty.ensures in grind (arith, n, m)) in
    ((λ t. (some, sym l ∙ e.0 t)), (λ h. e.1 (l ∙ h.1)))
