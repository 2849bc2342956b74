use Rattle.std.proofs.Common.{◌∙◌, ap, sym, option_and_then, slice_get, arith}
use Rattle.std.proofs.lemmas.Option.{slice_get_past}
use Rattle.gate_gaps.proofs.pools.placed.Goals as goal

pub returns-else-place-members : goal.returns-else-place-members
returns-else-place-members c =
    sym (ap (option_and_then (slice_get c.args.members.now)) (sym c.in_ok-place.ensures)
    ∙ slice_get_past c.args.members.now c.in_ok-place.place (omega (arith, c.if-place-members.false)))
