use Rattle.std.proofs.Common.{arith}
use Rattle.script_events.specs.declared.servers.event.Loss.TheVariants.{Item, Restart}
use Rattle.script_events.proofs.CacheLosses.{item_contents, item_held, all_contents, all_held, beyond_contents, beyond_held}
use Rattle.script_events.proofs.servers.losing.lose_one.Goals as goal

pub returns-then-place-len-clause-contents : goal.returns-then-place-len-clause-contents
returns-then-place-len-clause-contents c =
    item_contents c.args.caches.now.items c.in-Item.server c.number-place.result c.in-Item.key c.args.loss.now c.index_mut.result.now c.lose.new.self c.in-Item.is c.number-place.ensures (omega arith) c.index_mut.ensures.value c.lose.ensures.contents

pub returns-then-place-len-clause-held : goal.returns-then-place-len-clause-held
returns-then-place-len-clause-held c =
    item_held c.args.caches.now.items c.in-Item.server c.number-place.result c.in-Item.key c.args.loss.now c.index_mut.result.now c.lose.new.self c.in-Item.is c.number-place.ensures (omega arith) c.index_mut.ensures.value c.lose.ensures.lost

pub returns-else-place-len-clause-contents : goal.returns-else-place-len-clause-contents
returns-else-place-len-clause-contents c = beyond_contents c.args.caches.now.items c.number-place.result c.args.loss.now (Item c.in-Item.server c.in-Item.key) c.in-Item.is c.number-place.ensures (omega arith)

pub returns-else-place-len-clause-held : goal.returns-else-place-len-clause-held
returns-else-place-len-clause-held c = beyond_held c.args.caches.now.items c.number-place.result c.args.loss.now (Item c.in-Item.server c.in-Item.key) c.in-Item.is c.number-place.ensures (omega arith)

pub returns-then-place-len-2-clause-contents : goal.returns-then-place-len-2-clause-contents
returns-then-place-len-2-clause-contents c =
    all_contents c.args.caches.now.items c.in-Restart.server c.number-place-in-Restart.result c.args.loss.now c.index_mut-then-place-len-2.result.now c.restart.new.self c.in-Restart.is c.number-place-in-Restart.ensures (omega arith) c.index_mut-then-place-len-2.ensures.value c.restart.ensures.contents

pub returns-then-place-len-2-clause-held : goal.returns-then-place-len-2-clause-held
returns-then-place-len-2-clause-held c =
    all_held c.args.caches.now.items c.in-Restart.server c.number-place-in-Restart.result c.args.loss.now c.restart.new.self c.in-Restart.is c.number-place-in-Restart.ensures (omega arith) c.restart.ensures.lost

pub returns-else-place-len-2-clause-contents : goal.returns-else-place-len-2-clause-contents
returns-else-place-len-2-clause-contents c = beyond_contents c.args.caches.now.items c.number-place-in-Restart.result c.args.loss.now (Restart c.in-Restart.server) c.in-Restart.is c.number-place-in-Restart.ensures (omega arith)

pub returns-else-place-len-2-clause-held : goal.returns-else-place-len-2-clause-held
returns-else-place-len-2-clause-held c = beyond_held c.args.caches.now.items c.number-place-in-Restart.result c.args.loss.now (Restart c.in-Restart.server) c.in-Restart.is c.number-place-in-Restart.ensures (omega arith)
