use Rattle.std.proofs.Common.{refl, subst, inl, inr}
use Rattle.serve_links.specs.Lateness.{IsConnectLateAt}
use Rattle.serve_proxy.proofs.Going.{still}
use Rattle.serve_proxy.proofs.GivenUp.{unconnected}
use Rattle.serve_proxy.proofs.failing.fail_unconnected.Goals as goal

pub returns-then-not-is_connect_late : goal.returns-then-not-is_connect_late
returns-then-not-is_connect_late g c = record { ends = still; late = inr (refl, refl) }

pub returns : goal.returns
returns g c =
    let passed = subst (λ t. IsConnectLateAt c.args.at t c.args.sockets.now.links.all.items) c.last_millis-now.ensures (c.is_connect_late.ensures c.if-not-is_connect_late.false) in
    record { ends = unconnected c.args.at passed c.fail_link.ensures.ends; late = inl passed }
