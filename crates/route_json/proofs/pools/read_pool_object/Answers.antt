use Rattle.std.proofs.Common.{length, sym, subst}
use Rattle.route_json.specs.Pools.{IsServerList}
use Rattle.route_json.proofs.pools.read_pool_object.Goals as goal

pub returns-clause-good : goal.returns-clause-good
returns-clause-good c =
    let n = length c.read_list.new.servers in
    record {
      servers = c.in_ok-listed.ensures.good;
      slots = c.in_ok-slots.ensures.good n (subst (IsServerList n) (sym c.deref.ensures.value) c.in_ok-listed.ensures.good);
    }
