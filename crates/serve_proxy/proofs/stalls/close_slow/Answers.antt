use Rattle.std.proofs.Common.{◌≡◌, ◌≤◌, sym, subst}
use Rattle.serve_clients.specs.declared.clients.Clients.{Clients}
use Rattle.serve_proxy.specs.Stalls.{held_by_all}
use Rattle.serve_proxy.specs.Shares.{share_by}
use Rattle.serve_proxy.proofs.Going.{and_then, stays}
use Rattle.serve_proxy.proofs.stalls.close_slow.Goals as goal

pub returns : goal.returns
returns g c =
    let same = sym c.note_share.ensures.clients in
    record {
      ends = and_then (and_then c.end_stalled.ensures.ends c.shed.ensures.ends) (stays c.args.core.now c.note_share.ensures.ends);
      bounded = subst (λ (clients : Clients). held_by_all clients ≤ c.args.most) same c.shed.ensures.bounded;
      share = subst (λ (clients : Clients). c.note_share.new.self.stalls.share ≡ share_by c.args.most (held_by_all clients) c.note_share.new.self.links.settings.clients) same c.note_share.ensures.share;
    }
