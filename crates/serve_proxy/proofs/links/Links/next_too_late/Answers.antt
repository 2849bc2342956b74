use Rattle.std.proofs.Common.{refl}
use Rattle.serve_proxy.proofs.Linking.{given_late, refused_late, link_there}
use Rattle.serve_proxy.proofs.links.Links.next_too_late.Goals as goal

pub returns : goal.returns
returns c = record {
  call = given_late c.args.self.now.all.items c.args.at c.in_ok-get_mut.field-0.now c.next_too_late.new.self c.next_too_late.result c.in_ok-get_mut.ensures.item.3.0 c.in_ok-get_mut.ensures.value c.next_too_late.ensures.rest c.next_too_late.ensures.waiting;
  refused = refused_late c.next_too_late.result c.args.self.now.all.items c.args.at c.args.now c.next_too_late.new.self c.in_ok-get_mut.ensures.item.3.0 c.next_too_late.ensures.refused;
  late = λ some. (c.in_ok-get_mut.field-0.now, link_there c.args.self.now.all.items c.args.self.now.all.items c.args.at c.in_ok-get_mut.field-0.now refl c.in_ok-get_mut.ensures.item.3.0 c.in_ok-get_mut.ensures.value, c.next_too_late.ensures.late some);
}
