use Rattle.std.proofs.Common.{◌≡◌, length, arith}
use Rattle.lru.specs.LruCache.{lru_cache}
use Rattle.cache_server.proofs.SweepLemmas.{swept_none, swept_on, swept_all}
use Rattle.cache_server.proofs.sweep.sweep.Goals as goal

pub loop-turn-init : goal.loop-turn-init
loop-turn-init c = record { swept = swept_none c.args.now 18446744073709551615 c.args.items.now.entries; cap = λ i. c.args.items.now.cap }

pub loop-turn-preserved : goal.loop-turn-preserved
loop-turn-preserved c = record {
  swept = swept_on c.args.now c.args.items.now.entries c.loop-turn.due c.loop-turn._turn c.turn-due.result c.loop-turn.items.entries c.turn-due.new.items.entries
      (omega arith) c.loop-turn.invariant.swept c.turn-due.ensures.less c.turn-due.ensures.entries c.turn-due.ensures.due;
  cap = cc;
}

pub returns-clause-entries : goal.returns-clause-entries
returns-clause-entries c =
    let all : c.loop-turn._turn ≡ length c.args.items.now.entries = omega arith in
    let done = swept_all c.args.now c.loop-turn.due c.loop-turn._turn c.args.items.now.entries c.loop-turn.items.entries all c.loop-turn.invariant.swept in
    λ i. lru_cache (done.0 i) (c.loop-turn.invariant.cap i)

pub returns-clause-due : goal.returns-clause-due
returns-clause-due c =
    let all : c.loop-turn._turn ≡ length c.args.items.now.entries = omega arith in
    (swept_all c.args.now c.loop-turn.due c.loop-turn._turn c.args.items.now.entries c.loop-turn.items.entries all c.loop-turn.invariant.swept).1
