use Rattle.serde_json.specs.View.{view}
use Rattle.serve_proxy.specs.Limiting.{value_limits}
use Rattle.serve_proxy.proofs.Growing.{are_limited_by}
use Rattle.serve_proxy.proofs.Staying.{stay_limits}
use Rattle.serve_proxy.proofs.sockets.Sockets.limit.Goals as goal

pub returns : goal.returns
returns g c =
    let limits = value_limits c.args.usual (view c.args.said.now) in
    record {
      limited = are_limited_by limits c.args.self.now.links.all.items c.limit.new.self.all.items c.limit.ensures;
      ends = stay_limits _ _ limits c.args.self.now.links.all.items c.limit.new.self.all.items c.limit.ensures;
    }
