use Rattle.std.proofs.Common.{refl}
use Rattle.mcgate.specs.Served.{history_of}
use Rattle.mcgate_serve.proofs.LookedUp.{none_there, same_text, quiet_still, quiet_look_up}
use Rattle.mcgate.proofs.serve.look_up_at.Goals as goal

pub returns-in-Some : goal.returns-in-Some
returns-in-Some g c = record {
  quiet = quiet_look_up c.in-Some.text.now c.look_up_text.ensures;
  looked = same_text c.args.servers.now c.args.at c.in-Some.text.now (history_of c.args.wire.now) (history_of c.look_up_text.new.wire) c.in-Some.ensures.some c.look_up_text.ensures;
}

pub returns-in-None : goal.returns-in-None
returns-in-None g c = record { quiet = quiet_still (history_of c.args.wire.now); looked = none_there c.args.servers.now c.args.at (history_of c.args.wire.now) (c.in-None.ensures.none refl) }
