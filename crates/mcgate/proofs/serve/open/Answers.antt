use Rattle.std.proofs.Common.{sym, subst}
use Rattle.serve_wire.specs.declared.sockets.sockets.Sockets.{Sockets}
use Rattle.mcgate_serve.specs.LooksUp.{AreLookedUp}
use Rattle.mcgate.specs.Served.{history_of}
use Rattle.mcgate.proofs.serve.open.Goals as goal

pub returns-clause-ends : goal.returns-clause-ends
returns-clause-ends g c = c.in_ok-end_over.ensures.ends c.in_ok-wire.ensures.none

pub returns-clause-looked : goal.returns-clause-looked
returns-clause-looked g c = subst (λ (wire : Sockets). AreLookedUp 0 c.args.servers.now (history_of wire)) (sym c.in_ok-end_over.ensures.wire) c.in_ok-wire.ensures.looked
