use Rattle.std.proofs.Common.{ℕ, Option, length, inl, inr, refl, subst, arith}
use Rattle.wire_parts.specs.Sending.{bytes_of}
use Rattle.wire_stream.proofs.Fronts.{front_is, more_stuck}
use Rattle.cache_tcp.specs.Steps.{spot_at, asks_ended, RunsOn, HasStopped}
use Rattle.cache_tcp.proofs.Exits.{on_err}
use Rattle.cache_tcp.proofs.Keys.{way_key}
use Rattle.cache_tcp.proofs.Fronts.{runs_join, runs_pass, stops_join, pass_shorter, none_asked, within_pass, below_len}
use Rattle.cache_tcp.proofs.connection.serve.serve.Goals as goal

pub returns-in-Nothing-clause-all : goal.returns-in-Nothing-clause-all
returns-in-Nothing-clause-all c = inr (more_stuck c.loop-alloc.stream c.in-Nothing.ensures)

pub loop-alloc-smaller-in-Continue-1 : goal.loop-alloc-smaller-in-Continue-1
loop-alloc-smaller-in-Continue-1 c = pass_shorter c.loop-alloc.stream c.pass_front.new.stream (bytes_of c.loop-alloc.out) (bytes_of c.pass_front.new.out) c.in_ok-pass_front-in-Passing.ensures.ok

pub loop-alloc-preserved-in-Continue-1 : goal.loop-alloc-preserved-in-Continue-1
loop-alloc-preserved-in-Continue-1 c =
    let l = c.loop-alloc in
    let p = c.pass_front.new.stream in
    let u = bytes_of l.out in
    let v = bytes_of c.pass_front.new.out in
    let ok = c.in_ok-pass_front-in-Passing.ensures.ok in
    let zero = none_asked l.stream p l.next u v l.invariant.way ok in
    let fits = c.ranges.most.fits in
    record {
      way = inl zero;
      runs = runs_pass c.args.moment.seconds (spot_at c.args.stream.now c.args.first) l.stream p l.next c.args.cache.now l.cache (bytes_of c.args.out.now) u v l.invariant.runs ok zero;
      within = λ w. within_pass c.args.most l.stream p u v (below_len (length u) c.len.result c.args.most _ c.len.ensures c.loop-alloc-test.true (omega (arith, fits))) ok;
    }

pub serve_request-requires : goal.serve_request-requires
serve_request-requires c = way_key c.loop-alloc.stream c.in-Keys.request c.loop-alloc.next (front_is c.loop-alloc.stream c.in-Keys.request c.in-Keys.ensures.0) c.in-Keys.ensures.1 c.loop-alloc.invariant.way

pub returns-in_err-serve_request-in-Keys-clause-err : goal.returns-in_err-serve_request-in-Keys-clause-err
returns-in_err-serve_request-in-Keys-clause-err c =
    let l = c.loop-alloc in
    on_err c.from_residual-in_err-serve_request-in-Keys.result _
    (stops_join c.args.moment.seconds (spot_at c.args.stream.now c.args.first) (spot_at l.stream l.next) c.args.cache.now l.cache c.serve_request.new.cache (bytes_of c.args.out.now) (bytes_of l.out) l.invariant.runs c.in_err-serve_request-in-Keys.ensures.err)

pub loop-alloc-preserved : goal.loop-alloc-preserved
loop-alloc-preserved c =
    let l = c.loop-alloc in
    let k = c.serve_request.new in
    let m = c.args.moment.seconds in
    let u = bytes_of l.out in
    let v = bytes_of k.out in
    let more = subst (λ (o : Option ℕ). RunsOn m (spot_at l.stream l.next) l.cache u (spot_at k.stream (asks_ended o)) k.cache v) c.in-None.is c.in_ok-serve_request-in-Keys.ensures.ok in
    record {
      way = inl refl;
      runs = runs_join m (spot_at c.args.stream.now c.args.first) (spot_at l.stream l.next) (spot_at k.stream 0) c.args.cache.now l.cache k.cache (bytes_of c.args.out.now) u v l.invariant.runs more;
      within = λ w. c.in_ok-serve_request-in-Keys.ensures.within (l.invariant.within w);
    }

pub returns-in-Some-clause-ok : goal.returns-in-Some-clause-ok
returns-in-Some-clause-ok c =
    let l = c.loop-alloc in
    let k = c.serve_request.new in
    let m = c.args.moment.seconds in
    let u = bytes_of l.out in
    let v = bytes_of k.out in
    let more = subst (λ (o : Option ℕ). RunsOn m (spot_at l.stream l.next) l.cache u (spot_at k.stream (asks_ended o)) k.cache v) c.in-Some.is c.in_ok-serve_request-in-Keys.ensures.ok in
    runs_join m (spot_at c.args.stream.now c.args.first) (spot_at l.stream l.next) (spot_at k.stream c.in-Some.index) c.args.cache.now l.cache k.cache (bytes_of c.args.out.now) u v l.invariant.runs more

pub returns-in-Some-clause-way : goal.returns-in-Some-clause-way
returns-in-Some-clause-way c =
    let k = c.serve_request.new in
    let stopped = subst (λ (o : Option ℕ). HasStopped c.args.most o c.loop-alloc.stream k.stream (bytes_of k.out)) c.in-Some.is c.in_ok-serve_request-in-Keys.ensures.stopped in
    stopped.1
