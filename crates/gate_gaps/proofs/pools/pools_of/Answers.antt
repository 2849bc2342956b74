use Rattle.std.proofs.Common.{◌∙◌, ℕ, List, ap, string_bytes}
use Rattle.route_json.specs.Reading.{members}
use Rattle.serde_json.specs.View.{view, members_view}
use Rattle.gate_gaps.specs.Pools.{pool_by_name, named_pools_of}
use Rattle.gate_gaps.proofs.Pooling.{entries, pools_go}
use Rattle.gate_gaps.proofs.pools.pools_of.Goals as goal

pub loop-name-preserved : goal.loop-name-preserved
loop-name-preserved c =
    let servers = c.args.servers.now in
    let named = c.in_ok-pool.ensures ∙ ap (λ (t : List ℕ). pool_by_name servers (t, view c.in-Some.value.now)) c.as_str-text.ensures.value in
    pools_go servers (entries c.loop-name.name-iterator) (entries c.next.new.self) (string_bytes c.in-Some.name.now, view c.in-Some.value.now) c.in_ok-pool.pool c.loop-name.pools.items c.push.new.self.items (named_pools_of servers (members (members_view c.args.map.now.entries))) c.loop-name.invariant (ap entries c.in-Some.ensures.steps) named c.in_ok-push.ensures.items
