use Rattle.std.proofs.Common.{◌≤◌, length, arith}
use Rattle.serde_json.specs.View.{view}
use Rattle.serve_proxy.specs.Limiting.{value_limits}
use Rattle.serve_proxy.proofs.Limited.{one_limited, each_limited}
use Rattle.serve_proxy.proofs.limiting.limit_links.Goals as goal

pub loop-link-preserved : goal.loop-link-preserved
loop-link-preserved c = one_limited (value_limits c.args.usual (view c.args.said.now)) c.loop-link.link-index c.deref_mut-link-items.result.now c.loop-link.link-items c.link-item.result c.limit_link.new.link c.loop-link.invariant c.limit_link.ensures

pub returns : goal.returns
returns c =
    let all : length c.deref_mut-link-items.result.now ≤ c.loop-link.link-index = omega arith in
    each_limited (value_limits c.args.usual (view c.args.said.now)) c.loop-link.link-index c.args.links.now.len c.deref_mut-link-items.result.now c.args.links.now.items c.loop-link.link-items c.loop-link.invariant c.deref_mut-link-items.ensures.value c.args.links.now.ok.0 all
