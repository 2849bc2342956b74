use Rattle.std.proofs.Common.{◌++◌, ◌∷◌, None, Some, List, ℕ, map, ◌∙◌, ap, subst, length}
use Rattle.route_tree.specs.Place.{sizes}
use Rattle.gate_check.specs.declared.places.table.PlaceTable.{PlaceTable}
use Rattle.gate_check.specs.Tables.{IsMultiple}
use Rattle.gate_check.proofs.Tabling.{too_many, too_many_texts, table_is, rows_within}
use Rattle.gate_check.proofs.places.making.table_of_two.Goals as goal

pub returns-in-None : goal.returns-in-None
returns-in-None c =
    too_many c.args.first.now c.args.second.now (subst (IsMultiple (sizes c.args.first.now ++ sizes c.args.second.now)) c.in-None.is c.in_ok-modulus_of_two.ensures)

pub returns-then-len-modulus : goal.returns-then-len-modulus
returns-then-len-modulus c =
    let m = subst (IsMultiple (sizes c.args.first.now ++ sizes c.args.second.now)) c.in-Some.is c.in_ok-modulus_of_two.ensures in
    too_many_texts c.args.first.now c.args.second.now c.in-Some.modulus c.len.result m.0 (c.len.ensures ∙ c.in_ok-texts.texts.ok.0 ∙ ap length c.in_ok-texts.ensures) c.if-len-modulus.true

pub returns : goal.returns
returns c =
    let m = subst (IsMultiple (sizes c.args.first.now ++ sizes c.args.second.now)) c.in-Some.is c.in_ok-modulus_of_two.ensures in
    let prefixes = c.in_ok-classes.ensures.prefixes ∙ ap (λ (l : List (List ℕ)). None ∷ map Some l) (c.deref.ensures.value ∙ c.in_ok-texts.ensures) in
    let table : PlaceTable = record { modulus = c.in-Some.modulus; classes = c.in_ok-classes.classes } in
    let is = table_is c.args.first.now c.args.second.now table m.0 prefixes c.in_ok-classes.ensures.moduli in
    record {
      is_table = is;
      within = rows_within c.args.first.now c.args.second.now table c.len.result is prefixes (c.len.ensures ∙ c.in_ok-texts.texts.ok.0 ∙ ap length c.in_ok-texts.ensures) c.if-len-modulus.false;
    }
