use Rattle.std.proofs.Common.{refl, sym, ap, ◌∙◌, subst}
use Rattle.wire_parts.specs.Sending.{bytes_of}
use Rattle.wire_parts.specs.declared.to_send.buffer.SendBuffer.{SendBuffer}
use Rattle.serve_wire.specs.declared.conn.conn.Limits.{Limits}
use Rattle.cache_tcp.specs.Steps.{IsWithin}
use Rattle.cache_tcp.proofs.Exits.{on_err}
use Rattle.cache_tcp.proofs.Runs.{serves_none, serves_still, comes_still, stops_in, stops_between}
use Rattle.cache_tcp.proofs.client.CacheClient.serve.Goals as goal

pub loop-self-init : goal.loop-self-init
loop-self-init c =
    let s = c.args.self.now in
    record { serves = serves_none c.args.moment.seconds s.conn.held.items (bytes_of s.conn.unsent) s.served c.args.cache.now; within = λ w. w; limits = refl; number = refl }

pub returns-in_err-serve_stream-clause-err : goal.returns-in_err-serve_stream-clause-err
returns-in_err-serve_stream-clause-err c =
    let s = c.args.self.now in
    let a = c.loop-self.self in
    on_err c.from_residual.result _
    (stops_in c.args.moment.seconds s.conn.held.items (bytes_of s.conn.unsent) s.served c.args.cache.now a.conn.held.items (bytes_of a.conn.unsent) a.served c.loop-self.cache c.serve_stream.new.cache c.loop-self.invariant.serves c.in_err-serve_stream.ensures.err)

pub returns-then-not-may_feed-clause-ok : goal.returns-then-not-may_feed-clause-ok
returns-then-not-may_feed-clause-ok c =
    let s = c.args.self.now in
    let a = c.loop-self.self in
    let b = c.serve_stream.new.self in
    serves_still c.args.moment.seconds s.conn.held.items (bytes_of s.conn.unsent) s.served c.args.cache.now a.conn.held.items (bytes_of a.conn.unsent) a.served c.loop-self.cache b.conn.held.items (bytes_of b.conn.unsent) b.served c.serve_stream.new.cache
    c.loop-self.invariant.serves (ap (λ x. x.items) c.serve_stream.ensures.held) c.in_ok-serve_stream.ensures.ok

pub loop-self-preserved : goal.loop-self-preserved
loop-self-preserved c =
    let m = c.args.moment.seconds in
    let s = c.args.self.now in
    let a = c.loop-self.self in
    let b = c.serve_stream.new.self in
    let d = c.feed_piece.new.self in
    let limits = c.loop-self.invariant.limits in
    let served = serves_still m s.conn.held.items (bytes_of s.conn.unsent) s.served c.args.cache.now a.conn.held.items (bytes_of a.conn.unsent) a.served c.loop-self.cache b.conn.held.items (bytes_of b.conn.unsent) b.served c.serve_stream.new.cache
    c.loop-self.invariant.serves (ap (λ x. x.items) c.serve_stream.ensures.held) c.in_ok-serve_stream.ensures.ok in
    record {
      serves = comes_still m s.conn.held.items (bytes_of s.conn.unsent) s.served c.args.cache.now b.conn.held.items (bytes_of b.conn.unsent) b.served c.serve_stream.new.cache d.conn.held.items (bytes_of d.conn.unsent) d.served
          served (ap (λ x. bytes_of x) c.feed_piece.ensures.unsent) c.in_ok-feed_piece.ensures.ok;
      within = λ w.
          subst (λ (x : SendBuffer). IsWithin s.conn.limits.unsent (bytes_of x)) (sym c.feed_piece.ensures.unsent)
          (subst (λ (l : Limits). IsWithin l.unsent (bytes_of b.conn.unsent)) limits
          (c.serve_stream.ensures.within (subst (λ (l : Limits). IsWithin l.unsent (bytes_of a.conn.unsent)) (sym limits) (c.loop-self.invariant.within w))));
      limits = c.feed_piece.ensures.limits ∙ c.serve_stream.ensures.limits ∙ limits;
      number = c.feed_piece.ensures.number ∙ c.serve_stream.ensures.number ∙ c.loop-self.invariant.number;
    }

pub returns-in_err-feed_piece-clause-err : goal.returns-in_err-feed_piece-clause-err
returns-in_err-feed_piece-clause-err c =
    let s = c.args.self.now in
    let a = c.loop-self.self in
    let b = c.serve_stream.new.self in
    on_err c.from_residual-in_err-feed_piece.result _
    (stops_between c.args.moment.seconds s.conn.held.items (bytes_of s.conn.unsent) s.served c.args.cache.now b.conn.held.items (bytes_of b.conn.unsent) b.served c.serve_stream.new.cache
    (serves_still c.args.moment.seconds s.conn.held.items (bytes_of s.conn.unsent) s.served c.args.cache.now a.conn.held.items (bytes_of a.conn.unsent) a.served c.loop-self.cache b.conn.held.items (bytes_of b.conn.unsent) b.served c.serve_stream.new.cache
    c.loop-self.invariant.serves (ap (λ x. x.items) c.serve_stream.ensures.held) c.in_ok-serve_stream.ensures.ok))
