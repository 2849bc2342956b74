use Rattle.serve_proxy.proofs.Linking.{given_from}
use Rattle.serve_proxy.proofs.links.Links.next_waiting.Goals as goal

pub returns : goal.returns
returns c = record { call = given_from c.args.self.now.all.items c.args.at c.in_ok-get_mut.field-0.now c.next_to_go.new.self c.next_to_go.result c.in_ok-get_mut.ensures.item.3.0 c.in_ok-get_mut.ensures.value c.next_to_go.ensures.rest c.next_to_go.ensures.waiting }
