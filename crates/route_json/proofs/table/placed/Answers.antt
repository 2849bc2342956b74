use Rattle.std.proofs.Common.{◌∙◌, ap, sym, option_and_then, slice_get, arith}
use Rattle.std.proofs.lemmas.Option.{slice_get_past}
use Rattle.route_json.proofs.Numbers.{server_at_below}
use Rattle.route_json.proofs.table.placed.Goals as goal

pub returns-then-place-servers-clause-below : goal.returns-then-place-servers-clause-below
returns-then-place-servers-clause-below c = λ bound weighted.
    server_at_below bound c.args.servers.now c.in_ok-place.place c.index-servers-place.result weighted (omega (arith, c.if-place-servers.true)) c.index-servers-place.is

pub returns-else-place-servers-clause-server : goal.returns-else-place-servers-clause-server
returns-else-place-servers-clause-server c =
    sym (ap (option_and_then (slice_get c.args.servers.now)) (sym c.in_ok-place.ensures)
    ∙ slice_get_past c.args.servers.now c.in_ok-place.place (omega (arith, c.if-place-servers.false)))
