use Rattle.std.proofs.Common.{sym, subst, ap, ◌∙◌, nat_lt}
use Rattle.serve_clients.specs.declared.clients.Clients.{Clients}
use Rattle.serve_clients.specs.Agrees.{KeepsEnds}
use Rattle.serve_clients.proofs.Agreeing.{keeps_none}
use Rattle.serve_proxy.specs.Stalls.{held_by_all}
use Rattle.serve_proxy.specs.Shares.{share_if}
use Rattle.serve_proxy.proofs.Shedding.{is_more}
use Rattle.serve_proxy.proofs.Staying.{stay_clients}
use Rattle.serve_proxy.proofs.sockets.Sockets.note_share.Goals as goal

pub returns : goal.returns
returns g c =
    let same = c.hold_more-is_scarce.ensures.same in
    record {
      ends = stay_clients _ _ _ _ (subst (λ (n : Clients). KeepsEnds c.args.self.now.clients n) (sym same) (keeps_none c.args.self.now.clients));
      share =
          c.share_if-self.ensures
          ∙ ap (λ s. share_if s c.args.most c.args.self.now.links.settings.clients)
          (is_more c.hold_more-is_scarce.result c.three_quarters.result (held_by_all c.args.self.now.clients) c.hold_more-is_scarce.ensures.more ∙ ap (λ n. nat_lt n (held_by_all c.args.self.now.clients)) c.three_quarters.ensures);
      clients = same;
    }
