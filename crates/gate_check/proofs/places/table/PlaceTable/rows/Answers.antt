use Rattle.std.proofs.Common.{◌≡◌, length, arith, ◌∙◌}
use Rattle.gate_check.proofs.Lookups.{few_classes}
use Rattle.gate_check.proofs.places.table.PlaceTable.rows.Goals as goal

pub overflow_cast-result : goal.overflow_cast-result
overflow_cast-result c =
    let e : c.len.result ≡ length c.args.self.now.classes.items = c.len.ensures ∙ c.args.self.now.classes.ok.0 in
    let le = few_classes (length c.args.self.now.classes.items) c.args.self.now.modulus c.requires.some c.requires.within in
    omega (arith, e, le)
