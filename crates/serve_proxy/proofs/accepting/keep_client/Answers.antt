use Rattle.std.proofs.Common.{◌≡◌, false, true, if◌then◌else◌, Some, ap, sym, ◌∙◌}
use Rattle.serve_wire.specs.Events.{role}
use Rattle.serve_wire.proofs.Steps.{equal, only_twice}
use Rattle.serve_wire.proofs.Touching.{only_closed}
use Rattle.serve_links.specs.Shut.{client_conn}
use Rattle.serve_links.proofs.Shutting.{closed_shut}
use Rattle.serve_proxy.specs.Ends.{link_lines}
use Rattle.serve_proxy.proofs.Going.{and_then, stays, nothing, close_none}
use Rattle.serve_proxy.proofs.Told.{IsDropped, dropped_tells, opened_go, begun_agrees, begun_stands, begun_conn, none_agrees, none_stands, only_may, unused_new, unused_may, unused_closed, gone_here, gone_others}
use Rattle.serve_proxy.proofs.Staying.{stay_links}
use Rattle.serve_proxy.proofs.accepting.keep_client.Goals as goal

false_true : false ≡ true → ⊥
false_true e = cc

pub insert_client-requires : goal.insert_client-requires
insert_client-requires g c =
    let kept = client_conn c.args.sockets.now.clients c.args.id in
    let h1 = g.W.Wire.history c.args.sockets.now.wire in
    let h2 = g.W.Wire.history c.drop_end.new.self.wire in
    let dropped : IsDropped kept h1 h2 = record { some = c.drop_end.ensures.some; none = c.drop_end.ensures.none } in
    (dropped_tells kept c.args.conn h1 h2 dropped).0 ∙ c.requires

pub returns-then-insert_client : goal.returns-then-insert_client
returns-then-insert_client g c = record {
  ends = λ before does h new is.
      let id = c.args.id in
      let conn = c.args.conn in
      let cs = c.args.sockets.now.clients in
      let mid = c.drop_end.new.self.clients in
      let h1 = g.W.Wire.history c.args.sockets.now.wire in
      let h2 = g.W.Wire.history c.drop_end.new.self.wire in
      let h' = g.W.Wire.history c.insert_client.new.self.wire in
      let dropped : IsDropped (client_conn cs id) h1 h2 = record { some = c.drop_end.ensures.some; none = c.drop_end.ensures.none } in
      let unused = unused_new conn (client_conn cs id) h h1 h2 new is dropped in
      let admitted = c.insert_client.ensures.admitted c.if-insert_client.true in
      let begins = c.insert_client.ensures.begins c.if-insert_client.true in
      and_then
      (opened_go id conn c.args.core.now c.args.core.now new is dropped (only_may conn id h2 h' c.insert_client.ensures.may) (unused_may conn id h2 h' c.insert_client.ensures.may unused)
      (λ on. (begun_conn conn _ begins, ap (role conn) admitted ∙ ap (λ b. if b then Some (0, id) else role conn h2) (equal conn)))
      (λ j other. c.insert_client.ensures.others j other ∙ gone_others cs mid id c.drop_end.ensures.gone j other) (begun_agrees h2 h' id conn _ unused admitted begins) (begun_stands conn _ begins) nothing before does)
      (stays c.args.core.now (stay_links _ _ _ _ (ap (λ l. link_lines l.all.items) (c.insert_client.ensures.links ∙ ap (λ s. s.links) c.drop_end.ensures.rest))));
}

pub returns : goal.returns
returns g c = record {
  ends = λ before does h new is.
      let id = c.args.id in
      let conn = c.args.conn in
      let cs = c.args.sockets.now.clients in
      let mid = c.drop_end.new.self.clients in
      let last = c.insert_client.new.self.clients in
      let cs' = c.remove.new.self in
      let h1 = g.W.Wire.history c.args.sockets.now.wire in
      let h2 = g.W.Wire.history c.drop_end.new.self.wire in
      let h3 = g.W.Wire.history c.insert_client.new.self.wire in
      let h' = g.W.Wire.history c.close.new.self in
      let nobody = gone_here last cs' id c.remove.ensures.gone in
      let dropped : IsDropped (client_conn cs id) h1 h2 = record { some = c.drop_end.ensures.some; none = c.drop_end.ensures.none } in
      let unused = unused_closed conn h3 h' c.close.ensures (unused_may conn id h2 h3 c.insert_client.ensures.may (unused_new conn (client_conn cs id) h h1 h2 new is dropped)) in
      and_then
      (and_then
      (opened_go id conn c.args.core.now c.args.core.now new is dropped (only_twice conn h2 h3 h' (only_may conn id h2 h3 c.insert_client.ensures.may) (only_closed conn h3 h' c.close.ensures)) unused
      (λ on. absurd (false_true (sym (closed_shut conn h3 h' c.close.ensures) ∙ on)))
      (λ j other. gone_others last cs' id c.remove.ensures.gone j other ∙ c.insert_client.ensures.others j other ∙ gone_others cs mid id c.drop_end.ensures.gone j other) (none_agrees h' id _ nobody) (none_stands _ nobody) nothing before does)
      (close_none id c.close-2.result c.args.core.now c.close-2.new.self nobody c.close-2.ensures.ok c.close-2.ensures.err c.close-2.ensures.fresh))
      (stays c.close-2.new.self (stay_links _ _ _ _ (ap (λ l. link_lines l.all.items) (c.insert_client.ensures.links ∙ ap (λ s. s.links) c.drop_end.ensures.rest))));
}
