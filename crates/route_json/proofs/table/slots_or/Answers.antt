use Rattle.route_json.proofs.Slots.{weights_make_slots}
use Rattle.route_json.proofs.table.slots_or.Goals as goal

pub returns-in_ok-slots_of-in-None-clause-good : goal.returns-in_ok-slots_of-in-None-clause-good
returns-in_ok-slots_of-in-None-clause-good c = λ bound good.
    weights_make_slots bound c.args.servers.now c.in_ok-slots_of-in-None.field-0.items c.in_ok-slots_of-in-None.ensures good
