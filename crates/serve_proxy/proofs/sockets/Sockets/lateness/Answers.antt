use Rattle.std.proofs.Common.{subst}
use Rattle.serve_links.specs.Lateness.{LinkIsRead}
use Rattle.serve_proxy.proofs.sockets.Sockets.lateness.Goals as goal

pub returns : goal.returns
returns g c = record { read = λ is. subst (λ t. LinkIsRead c.args.at t c.args.self.now.links.all.items) c.last_millis.ensures (c.lateness.ensures.read is) }
