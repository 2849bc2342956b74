use Rattle.std.proofs.Common.{◌≡◌, Some, slice_get, is_some, sym, ap, ◌∙◌, arith}
use Rattle.core_commands.proofs.ByPlace.{place_is, value_here, values_here}
use Rattle.core_commands.proofs.command_table.place_of.Goals as goal

pub returns-then-there-number : goal.returns-then-there-number
returns-then-there-number c =
    let m = c.args.commands.now in
    let guess = c.guess_of-guess.result in
    let a = c.in-Some.field-0-1.now in
    let is : c.in-Some.there.now ≡ c.args.number = (let t = c.if-there-number.true in grind (arith, t)) in
    let at : slice_get m.entries guess ≡ Some (c.args.number, a) = sym c.in-Some.ensures.entry ∙ (λ i. Some (is i, a)) in
    let place = place_is c.args.number m guess a c.len.ensures.unique at in
    record {
      index = sym place;
      found = sym (ap is_some (value_here c.args.number m guess c.args.number a place at));
      value = values_here c.args.number m guess place;
    }
