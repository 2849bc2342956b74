use Rattle.std.proofs.Common.{ap}
use Rattle.serve_proxy.specs.Ends.{link_lines}
use Rattle.serve_proxy.proofs.Going.{and_then, stays}
use Rattle.serve_proxy.proofs.Staying.{stay_links}
use Rattle.serve_proxy.proofs.Told.{gone_go}
use Rattle.serve_proxy.proofs.sockets.Sockets.remove_client.Goals as goal

pub returns : goal.returns
returns g c = record {
  ends = λ before core does sent.
      and_then (gone_go c.args.id c.drop_end.ensures.gone (record { some = c.drop_end.ensures.some; none = c.drop_end.ensures.none }) before core does sent)
      (stays core (stay_links _ _ _ _ (ap (λ s. link_lines s.links.all.items) c.drop_end.ensures.rest)));
}
