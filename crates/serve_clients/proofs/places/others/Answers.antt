use Rattle.std.proofs.Common.{◌≡◌, ◌≤◌, ◌*◌, ℕ, length, get_or, ◌∙◌, sym, arith}
use Rattle.std.proofs.lemmas.Grind.{get_or_default_zero}
use Rattle.std.proofs.lemmas.List.Sums.{get_or-le-sum_by}
use Rattle.std.specs.Prelude.{sum}
use Rattle.serve_clients.proofs.Noting.{sum_small}
use Rattle.serve_clients.proofs.places.others.Goals as goal

pub returns : goal.returns
returns c =
    let held = c.args.held.now.items in
    let is : get_or held c.args.id 0 ≡ c.index.result.now = sym (get_or_default_zero held c.args.id c.index.result.now c.requires.within) ∙ sym c.index.ensures in
    let le : get_or held c.args.id 0 ≤ sum held = get_or-le-sum_by (λ (x : ℕ). x) held c.args.id 0 c.requires.within in
    let most : sum held ≤ length held * 18446744073709551615 = sum_small held c.type_inv.held in
    record {
      others = omega (arith, is, le, c.requires.total);
      fits = omega (arith, most, c.requires.total, c.args.held.now.small, c.args.held.now.ok);
    }
