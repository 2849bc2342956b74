use Rattle.std.proofs.Common.{ℕ, ◌<◌, List, length, sym, ◌∙◌, subst, refl, arith}
use Rattle.wire_parts.specs.Sending.{bytes_of}
use Rattle.wire_parts.specs.Stream.{Place}
use Rattle.wire_stream.specs.Held.{bytes_at}
use Rattle.cache_tcp.specs.Steps.{spot_at, IsWithin}
use Rattle.cache_tcp.proofs.Exits.{on_err}
use Rattle.cache_tcp.proofs.Keys.{way_on, stays_at, key_on_way}
use Rattle.cache_tcp.proofs.Fronts.{runs_none, runs_more, runs_last, stops_next, next_shorter, within_next, below_len, above_len}
use Rattle.cache_tcp.proofs.connection.serve.serve_request.Goals as goal

pub loop-index-init : goal.loop-index-init
loop-index-init c = record { way = c.requires; stays = refl; runs = runs_none c.args.moment.seconds (spot_at c.args.stream.now c.args.first) c.args.cache.now (bytes_of c.args.out.now); within = λ w. w }

pub loop-index-preserved : goal.loop-index-preserved
loop-index-preserved c =
    let l = c.loop-index in
    let k = c.serve_key.new in
    let u = bytes_of l.out in
    let v = bytes_of k.out in
    let m = c.args.moment.seconds in
    let ok = c.in_ok-serve_key.ensures.ok in
    let goes = c.if-branch.false in
    let fits = c.ranges.most.fits in
    record {
      way = way_on m l.stream k.stream c.args.request.now l.index l.cache k.cache u v _ l.invariant.way ok goes;
      stays = stays_at m l.stream k.stream l.index l.cache k.cache u v _ ok goes ∙ l.invariant.stays;
      runs = runs_more m (spot_at c.args.stream.now c.args.first) l.stream k.stream l.index c.args.cache.now l.cache k.cache (bytes_of c.args.out.now) u v _ l.invariant.runs ok goes;
      within = λ w. within_next m c.args.most l.stream k.stream l.index l.cache k.cache u v _ (below_len (length u) c.len.result c.args.most _ c.len.ensures c.if-len-most.false (omega (arith, fits))) ok;
    }

pub returns-then-len-most-clause-ok : goal.returns-then-len-most-clause-ok
returns-then-len-most-clause-ok c = c.loop-index.invariant.runs

pub returns-then-len-most-clause-stopped : goal.returns-then-len-most-clause-stopped
returns-then-len-most-clause-stopped c =
    (above_len (length (bytes_of c.loop-index.out)) c.len.result c.args.most _ c.len.ensures c.if-len-most.true, key_on_way c.loop-index.stream c.args.request.now c.loop-index.index c.loop-index.invariant.way)

pub returns-then-len-most-clause-within : goal.returns-then-len-most-clause-within
returns-then-len-most-clause-within c = c.loop-index.invariant.within

pub returns-then-branch-clause-ok : goal.returns-then-branch-clause-ok
returns-then-branch-clause-ok c =
    let l = c.loop-index in
    let k = c.serve_key.new in
    runs_last c.args.moment.seconds (spot_at c.args.stream.now c.args.first) l.stream k.stream l.index c.args.cache.now l.cache k.cache (bytes_of c.args.out.now) (bytes_of l.out) (bytes_of k.out) _ l.invariant.runs c.in_ok-serve_key.ensures.ok c.if-branch.true

pub returns-then-branch-clause-stopped : goal.returns-then-branch-clause-stopped
returns-then-branch-clause-stopped c =
    let l = c.loop-index in
    let k = c.serve_key.new in
    subst (λ (p : Place). length (bytes_at k.stream) < length (bytes_at p)) l.invariant.stays
    (next_shorter c.args.moment.seconds l.stream k.stream l.index l.cache k.cache (bytes_of l.out) (bytes_of k.out) _ c.in_ok-serve_key.ensures.ok c.if-branch.true)

pub returns-then-branch-clause-within : goal.returns-then-branch-clause-within
returns-then-branch-clause-within c =
    let l = c.loop-index in
    let k = c.serve_key.new in
    let u = bytes_of l.out in
    let fits = c.ranges.most.fits in
    λ w. within_next c.args.moment.seconds c.args.most l.stream k.stream l.index l.cache k.cache u (bytes_of k.out) _ (below_len (length u) c.len.result c.args.most _ c.len.ensures c.if-len-most.false (omega (arith, fits))) c.in_ok-serve_key.ensures.ok

pub returns-in_err-serve_key-clause-err : goal.returns-in_err-serve_key-clause-err
returns-in_err-serve_key-clause-err c =
    let l = c.loop-index in
    on_err c.from_residual.result _
    (stops_next c.args.moment.seconds (spot_at c.args.stream.now c.args.first) l.stream l.index c.args.cache.now l.cache c.serve_key.new.cache (bytes_of c.args.out.now) (bytes_of l.out) l.invariant.runs c.in_err-serve_key.ensures.err)

pub returns-in_err-serve_key-clause-within : goal.returns-in_err-serve_key-clause-within
returns-in_err-serve_key-clause-within c = λ w. subst (λ (l : List ℕ). IsWithin c.args.most l) (sym c.in_err-serve_key.ensures.kept) (c.loop-index.invariant.within w)
