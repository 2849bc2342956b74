use Rattle.serve_links.proofs.Walked.{by_feed}
use Rattle.std.proofs.Common.{refl}
use Rattle.serve_links.proofs.Feeding.{takes, fed_all}
use Rattle.serve_links.proofs.client_bytes.feed_held.Goals as goal

pub returns-in-Ok-clause-core : goal.returns-in-Ok-clause-core
returns-in-Ok-clause-core c = by_feed c.args.id c.as_slice.result.now c.feed.result c.args.core.now c.feed.new.self c.feed.ensures.ok c.feed.ensures.err c.feed.ensures.fresh

pub returns-in-Ok-clause-piece : goal.returns-in-Ok-clause-piece
returns-in-Ok-clause-piece c = takes c.args.id c.as_slice.result.now c.args.client.now.conn.held.items c.as_slice.ensures c.feed.result c.args.core.now c.feed.new.self c.feed.ensures.ok c.feed.ensures.err c.feed.ensures.fresh

pub returns-in-Ok-clause-held : goal.returns-in-Ok-clause-held
returns-in-Ok-clause-held c =
    let x = c.args.client.now in
    fed_all c.args.id x (record x { conn = record x.conn { held = c.clear.new.self } }) c.as_slice.result.now c.args.core.now c.feed.new.self c.as_slice.ensures c.in-Ok.ensures.ok c.in-Ok.ensures.fresh c.clear.ensures.items refl

pub returns-in-Err-clause-core : goal.returns-in-Err-clause-core
returns-in-Err-clause-core c = by_feed c.args.id c.as_slice.result.now c.feed.result c.args.core.now c.feed.new.self c.feed.ensures.ok c.feed.ensures.err c.feed.ensures.fresh

pub returns-in-Err-clause-piece : goal.returns-in-Err-clause-piece
returns-in-Err-clause-piece c = takes c.args.id c.as_slice.result.now c.args.client.now.conn.held.items c.as_slice.ensures c.feed.result c.args.core.now c.feed.new.self c.feed.ensures.ok c.feed.ensures.err c.feed.ensures.fresh

pub returns-in-Err-InputFull-clause-core : goal.returns-in-Err-InputFull-clause-core
returns-in-Err-InputFull-clause-core c = by_feed c.args.id c.as_slice.result.now c.feed.result c.args.core.now c.feed.new.self c.feed.ensures.ok c.feed.ensures.err c.feed.ensures.fresh

pub returns-in-Err-InputFull-clause-piece : goal.returns-in-Err-InputFull-clause-piece
returns-in-Err-InputFull-clause-piece c = takes c.args.id c.as_slice.result.now c.args.client.now.conn.held.items c.as_slice.ensures c.feed.result c.args.core.now c.feed.new.self c.feed.ensures.ok c.feed.ensures.err c.feed.ensures.fresh
