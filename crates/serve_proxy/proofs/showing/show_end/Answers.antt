use Rattle.std.proofs.Common.{refl, ap}
use Rattle.serve_clients.specs.Agrees.{end_said_of}
use Rattle.serve_proxy.proofs.Going.{one_then, one_same, one_breaks, one_shown}
use Rattle.serve_proxy.proofs.showing.show_end.Goals as goal

pub returns-in-Ok : goal.returns-in-Ok
returns-in-Ok c = record { one = λ h. one_then (one_shown c.args.client.now c.show.new.client c.show.result c.show.ensures.gives c.show.ensures.same c.show.ensures.bytes c.show.ensures.kept c.show.ensures.rest) (one_same c.show.new.client c.has_shown.new.self (ap end_said_of c.has_shown.ensures)) }

pub returns-in-Err-NoMemory : goal.returns-in-Err-NoMemory
returns-in-Err-NoMemory c = record { one = λ h. one_then (one_shown c.args.client.now c.show.new.client c.show.result c.show.ensures.gives c.show.ensures.same c.show.ensures.bytes c.show.ensures.kept c.show.ensures.rest) (one_breaks c.show.new.client c.break_off.new.self refl c.break_off.ensures.broken) }

pub returns-in-Err : goal.returns-in-Err
returns-in-Err c = record { one = λ h. one_shown c.args.client.now c.show.new.client c.show.result c.show.ensures.gives c.show.ensures.same c.show.ensures.bytes c.show.ensures.kept c.show.ensures.rest }
