use Rattle.std.proofs.Common.{◌≡◌, List, ℕ, drop, refl, sym, ap, ◌∙◌, subst}
use Rattle.serve_clients.specs.declared.clients.Clients.{Clients}
use Rattle.serve_wire.specs.declared.conn.conn.Conn.{Conn}
use Rattle.serve_wire.specs.Ends.{HoldsAnew}
use Rattle.serve_clients.specs.Agrees.{KeepsEnds}
use Rattle.serve_wire.proofs.Anew.{anew_held, anew_twice}
use Rattle.serve_clients.proofs.Agreeing.{keeps_none, keeps_twice}
use Rattle.serve_links.proofs.Walked.{still, then}
use Rattle.serve_links.proofs.Leaving.{none, both, between}
use Rattle.serve_links.proofs.outcomes.settle_held.Goals.{in-Left, in-Long, in-Large}
use Rattle.serve_links.proofs.outcomes.settle_held.Goals as goal

pub loop-init : goal.loop-init
loop-init c = record {
  core = still refl;
  settled = none (ap (λ q. q.items) c.stops_for-stops.ensures.calls) (ap (λ b. b.items) c.stops_for-stops.ensures.held) refl;
  ends = keeps_none c.args.clients.now;
  rest = c.stops_for-stops.ensures.rest;
}

pub loop-preserved : goal.loop-preserved
loop-preserved c =
    let same : c.loop.conn.held.items ≡ c.copied.result = cc in
    let rest = c.use_up.ensures.held ∙ ap (λ (l : List ℕ). drop c.settle_in-used.result.0 l) same in
    let here = both c.loop.invariant.settled (between same rest c.settle_in-used.ensures.settled) in
    let core = then c.loop.invariant.core c.settle_in-used.ensures.core in
    let ends = keeps_twice c.args.clients.now c.loop.clients c.settle_in-used.new.clients c.loop.invariant.ends c.settle_in-used.ensures.ends in
    let anew = anew_twice c.args.conn.now c.loop.conn c.use_up.new.self c.loop.invariant.rest (anew_held c.loop.conn c.use_up.new.self c.use_up.ensures.rest) in
    elim c.match-stop.branch [
      | in-Left w ↦ record {
        core = then core (still w.core-is);
        settled = both here (none (ap (λ q. q.sent.items) w.calls-is) (ap (λ z. z.held.items) w.conn-is) w.core-is);
        ends = subst (λ (z : Clients). KeepsEnds c.args.clients.now z) (sym w.clients-is) ends;
        rest = subst (λ (z : Conn). HoldsAnew c.args.conn.now z) (sym w.conn-is) anew;
      }
      | in-Long w ↦ record {
        core = then (then core w.take_long-left.ensures.core) (still w.core-is);
        settled = both (both here w.take_long-left.ensures.settled) (none (ap (λ q. q.sent.items) w.calls-is) (ap (λ z. z.held.items) w.conn-is) w.core-is);
        ends = subst (λ (z : Clients). KeepsEnds c.args.clients.now z) (sym w.clients-is) (keeps_twice c.args.clients.now c.settle_in-used.new.clients w.take_long-left.new.clients ends w.take_long-left.ensures.ends);
        rest = subst (λ (z : Conn). HoldsAnew c.args.conn.now z) (sym w.conn-is) (anew_twice c.args.conn.now c.use_up.new.self w.take_long-left.new.conn anew w.take_long-left.ensures.rest);
      }
      | in-Large w ↦ record {
        core = then (then core w.take_large-left.ensures.core) (still w.core-is);
        settled = both (both here w.take_large-left.ensures.settled) (none (ap (λ q. q.sent.items) w.calls-is) (ap (λ z. z.held.items) w.conn-is) w.core-is);
        ends = subst (λ (z : Clients). KeepsEnds c.args.clients.now z) (sym w.clients-is) (keeps_twice c.args.clients.now c.settle_in-used.new.clients w.take_large-left.new.clients ends w.take_large-left.ensures.ends);
        rest = subst (λ (z : Conn). HoldsAnew c.args.conn.now z) (sym w.conn-is) (anew_twice c.args.conn.now c.use_up.new.self w.take_large-left.new.conn anew w.take_large-left.ensures.rest);
      }
    ]

pub returns-in-Some-clause-core : goal.returns-in-Some-clause-core
returns-in-Some-clause-core c =
    let core = then c.loop.invariant.core c.settle_in-used.ensures.core in
    elim c.match-stop.branch [
      | in-Left w ↦ then core (still w.core-is)
      | in-Long w ↦ then (then core w.take_long-left.ensures.core) (still w.core-is)
      | in-Large w ↦ then (then core w.take_large-left.ensures.core) (still w.core-is)
    ]

pub returns-in-Some-clause-settled : goal.returns-in-Some-clause-settled
returns-in-Some-clause-settled c =
    let same : c.loop.conn.held.items ≡ c.copied.result = cc in
    let rest = c.use_up.ensures.held ∙ ap (λ (l : List ℕ). drop c.settle_in-used.result.0 l) same in
    let here = both c.loop.invariant.settled (between same rest c.settle_in-used.ensures.settled) in
    elim c.match-stop.branch [
      | in-Left w ↦ both here (none (ap (λ q. q.sent.items) w.calls-is) (ap (λ z. z.held.items) w.conn-is) w.core-is)
      | in-Long w ↦ both (both here w.take_long-left.ensures.settled) (none (ap (λ q. q.sent.items) w.calls-is) (ap (λ z. z.held.items) w.conn-is) w.core-is)
      | in-Large w ↦ both (both here w.take_large-left.ensures.settled) (none (ap (λ q. q.sent.items) w.calls-is) (ap (λ z. z.held.items) w.conn-is) w.core-is)
    ]

pub returns-in-Some-clause-ends : goal.returns-in-Some-clause-ends
returns-in-Some-clause-ends c =
    let ends = keeps_twice c.args.clients.now c.loop.clients c.settle_in-used.new.clients c.loop.invariant.ends c.settle_in-used.ensures.ends in
    elim c.match-stop.branch [
      | in-Left w ↦ subst (λ (z : Clients). KeepsEnds c.args.clients.now z) (sym w.clients-is) ends
      | in-Long w ↦ subst (λ (z : Clients). KeepsEnds c.args.clients.now z) (sym w.clients-is) (keeps_twice c.args.clients.now c.settle_in-used.new.clients w.take_long-left.new.clients ends w.take_long-left.ensures.ends)
      | in-Large w ↦ subst (λ (z : Clients). KeepsEnds c.args.clients.now z) (sym w.clients-is) (keeps_twice c.args.clients.now c.settle_in-used.new.clients w.take_large-left.new.clients ends w.take_large-left.ensures.ends)
    ]
