use Rattle.std.proofs.Common.{◌∷◌, subst, ◌∙◌}
use Rattle.route_tree.specs.Place.{sizes}
use Rattle.gate_check.specs.Tables.{IsMultiple}
use Rattle.gate_growth.specs.Classes.{class_prefixes}
use Rattle.gate_growth.proofs.Refining.{finer_are, too_many_sizes, too_many_texts}
use Rattle.gate_growth.proofs.ledger.refining.finer_rows.Goals as goal

pub returns-in-None-clause-rows : goal.returns-in-None-clause-rows
returns-in-None-clause-rows c = λ trees rows.
    too_many_sizes trees c.args.tree.now (class_prefixes c.args.classes.now) c.args.modulus rows (subst (IsMultiple (c.args.modulus ∷ sizes c.args.tree.now)) c.in-None.is c.in_ok-finer_modulus.ensures)

pub returns-then-len-modulus-clause-rows : goal.returns-then-len-modulus-clause-rows
returns-then-len-modulus-clause-rows c = λ trees rows.
    let tree = c.args.tree.now in
    let multiple = subst (IsMultiple (c.args.modulus ∷ sizes tree)) c.in-Some.is c.in_ok-finer_modulus.ensures in
    let finer = finer_are trees tree (class_prefixes c.args.classes.now) c.args.modulus rows c.in_ok-texts.texts.items c.in-Some.modulus c.in_ok-texts.ensures multiple in
    too_many_texts _ c.in_ok-texts.texts.items c.in-Some.modulus c.len.result finer (c.len.ensures ∙ c.in_ok-texts.texts.ok.0) c.if-len-modulus.true

pub returns-clause-rows : goal.returns-clause-rows
returns-clause-rows c = λ trees rows.
    let tree = c.args.tree.now in
    let multiple = subst (IsMultiple (c.args.modulus ∷ sizes tree)) c.in-Some.is c.in_ok-finer_modulus.ensures in
    finer_are trees tree (class_prefixes c.args.classes.now) c.args.modulus rows c.in_ok-texts.texts.items c.in-Some.modulus c.in_ok-texts.ensures multiple
