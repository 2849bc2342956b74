use Rattle.std.proofs.Common.{refl}
use Rattle.mcgate_serve.proofs.LookedUp.{none_there, same_text}
use Rattle.mcgate_serve.proofs.operating.Operating.resolve_at.Goals as goal

pub returns-in-Some-clause-looked : goal.returns-in-Some-clause-looked
returns-in-Some-clause-looked g c = same_text c.args.servers.now c.args.at c.in-Some.text.now (g.W.Wire.history c.args.sockets.now.wire) (g.W.Wire.history c.resolve_one.new.sockets.wire) c.in-Some.ensures.some c.resolve_one.ensures.looked

pub returns-in-None-clause-looked : goal.returns-in-None-clause-looked
returns-in-None-clause-looked g c = none_there c.args.servers.now c.args.at (g.W.Wire.history c.args.sockets.now.wire) (c.in-None.ensures.none refl)
