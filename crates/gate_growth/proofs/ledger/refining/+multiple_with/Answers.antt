use Rattle.std.proofs.Common.{◌≡◌, ◌∷◌, ◌-◌, ℕ, List, [], Some, None, length, get_or, take, drop, sym, subst, arith}
use Rattle.std.proofs.lemmas.List.{nil_from_length}
use Rattle.gate_check.specs.Tables.{IsMultiple}
use Rattle.gate_growth.proofs.Coarse.{parted_numbers}
use Rattle.gate_growth.proofs.Refining.{alone, taken_in, too_large}
use Rattle.gate_growth.proofs.ledger.refining.+multiple_with.Goals as goal

pub returns-in-empty : goal.returns-in-empty
returns-in-empty t c =
    let none : c.args.sizes.now ≡ [] = nil_from_length c.args.sizes.now (omega arith) in
    subst (λ (l : List ℕ). IsMultiple (c.args.modulus ∷ l) (Some c.args.modulus)) (sym none) (alone c.args.modulus c.requires.some c.requires.within)

pub returns-then-more-le-PLACE_LIMIT : goal.returns-then-more-le-PLACE_LIMIT
returns-then-more-le-PLACE_LIMIT t c =
    let xs = c.args.sizes.now in
    let rest : List ℕ = take (length xs - 1) (drop 1 xs) in
    subst (λ (l : List ℕ). IsMultiple (c.args.modulus ∷ l) c.multiple_with.result) (sym (parted_numbers xs c.in-len1-up.len_at_least))
    (taken_in c.args.modulus (get_or xs 0 0) c.common_multiple-more.result rest c.multiple_with.result c.common_multiple-more.ensures c.multiple_with.ensures)

pub returns-else-more-le-PLACE_LIMIT : goal.returns-else-more-le-PLACE_LIMIT
returns-else-more-le-PLACE_LIMIT t c =
    let xs = c.args.sizes.now in
    let rest : List ℕ = take (length xs - 1) (drop 1 xs) in
    subst (λ (l : List ℕ). IsMultiple (c.args.modulus ∷ l) None) (sym (parted_numbers xs c.in-len1-up.len_at_least))
    (too_large c.args.modulus (get_or xs 0 0) c.common_multiple-more.result rest c.common_multiple-more.ensures c.if-more-le-PLACE_LIMIT.false)
