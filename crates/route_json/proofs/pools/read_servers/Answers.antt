use Rattle.std.proofs.Common.{length, sym, subst}
use Rattle.route_json.specs.Pools.{AreWeighted}
use Rattle.route_json.proofs.pools.read_servers.Goals as goal

pub slot_count-requires-clause-light : goal.slot_count-requires-clause-light
slot_count-requires-clause-light c =
    (length c.read_each.new.servers, subst (AreWeighted (length c.read_each.new.servers)) (sym c.deref.ensures.value) c.in_ok-pool.ensures.below)
