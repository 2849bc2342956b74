use Rattle.std.proofs.Common.{ap, refl}
use Rattle.serve_links.specs.Story.{line_of}
use Rattle.serve_proxy.proofs.GivenUp.{line_goes_unless}
use Rattle.serve_proxy.proofs.GivenUp.{stands_in_vain}
use Rattle.serve_proxy.proofs.Linking.{line_vain}
use Rattle.serve_proxy.proofs.sockets.Sockets.read_in_vain.Goals as goal

pub returns : goal.returns
returns g c = record { ends = line_goes_unless _ c.args.self.now.links.all.items c.args.at c.in-Some.link.now c.has_read.new.self c.in-Some.ensures.item.3.0 c.in-Some.ensures.value (stands_in_vain c.args.at _ c.in-Some.link.now c.has_read.new.self c.has_read.result c.vain.result c.vain.ensures c.has_read.ensures.failed (line_vain c.in-Some.link.now c.has_read.new.self (ap line_of c.has_read.ensures.rest) (c.has_read.ensures.vain refl))) }
