use Rattle.std.proofs.Common.{◌≡◌, ◌<◌, false, true, None, sym, ap, subst}
use Rattle.serve_links.specs.declared.link.Link.{Link}
use Rattle.serve_links.specs.declared.calls.calls.LinkCalls.{LinkCalls}
use Rattle.serve_links.specs.Links.{IsDown}
use Rattle.serve_links.proofs.Failing.{at_set}
use Rattle.serve_links.proofs.Story.{but_none, go_between}
use Rattle.serve_links.proofs.ByLimits.{same_server}
use Rattle.serve_links.proofs.LinkGoes.{line_closes, line_fails, line_then}
use Rattle.serve_proxy.specs.Ends.{end_of}
use Rattle.serve_proxy.proofs.Going.{still, and_then, stays}
use Rattle.serve_proxy.proofs.GivenUp.{line_given_up}
use Rattle.serve_proxy.proofs.Staying.{stay_clients}
use Rattle.serve_proxy.proofs.Linking.{nowhere}
use Rattle.serve_proxy.proofs.failing.shut_link.Goals as goal

false_true : false ≡ true → ⊥
false_true e = cc

pub returns-in-None-clause-ends : goal.returns-in-None-clause-ends
returns-in-None-clause-ends g c = λ why apart.
    let x = end_of g.W.Wire.history c.args.core.now c.args.sockets.now in
    go_between (λ past was. but_none c.args.at past x (nowhere c.args.sockets.now.links.all.items c.args.at (λ within. false_true (c.in-None.ensures.variant.1 (subst (λ n. c.args.at < n) (sym c.args.sockets.now.links.all.ok.0) within)))) was) (λ past was. was) (still {a = x})

pub returns-in-Some : goal.returns-in-Some
returns-in-Some g c =
    let links = c.args.sockets.now.links.all.items in
    let x = c.in-Some.link.now in
    let m = c.close-closed.new.self in
    let y = c.fail_all.new.link in
    record {
      ends = λ why apart. and_then
          (line_given_up why links c.args.at x y c.in-Some.ensures.item.3.0 c.in-Some.ensures.value
          (line_then
          (line_closes why apart x m c.close-closed.result c.close-closed.ensures.number c.close_if_any.ensures.some c.close_if_any.ensures.none c.close-closed.ensures.conn c.close-closed.ensures.draining (same_server x m (ap (λ t. t.items) c.close-closed.ensures.text) c.close-closed.ensures.limits) c.close-closed.ensures.waiting (ap (λ (k : LinkCalls). k.sent.items) c.close-closed.ensures.calls) c.close-closed.ensures.lost)
          (line_fails m y c.fail_all.ensures.first.0 c.fail_all.ensures.first.1 c.fail_all.ensures.first.2 c.close-closed.ensures.conn c.fail_all.ensures.closed c.fail_all.ensures.draining (same_server m y (ap (λ t. t.items) c.fail_all.ensures.text) c.fail_all.ensures.limits) c.fail_all.ensures.lost)))
          (stays c.fail_all.new.core (stay_clients _ _ _ _ c.fail_all.ensures.ends));
      down = at_set IsDown links c.args.at y c.fail_all.ensures.down;
      closed = at_set (λ (z : Link). z.conn ≡ None) links c.args.at y c.fail_all.ensures.closed;
    }
