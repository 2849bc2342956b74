use Rattle.serve_proxy.proofs.Linking.{link_there}
use Rattle.serve_proxy.proofs.links.Links.lateness.Goals as goal

pub returns-in-Some : goal.returns-in-Some
returns-in-Some c = record { read = λ is. (c.in-Some.link.now, link_there c.args.self.now.all.items c.deref.result.now c.args.at c.in-Some.link.now c.deref.ensures.value c.in-Some.ensures.lookup.3.0 c.in-Some.ensures.lookup.1, c.lateness.ensures.read is) }
