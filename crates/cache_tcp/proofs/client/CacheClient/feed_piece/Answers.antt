use Rattle.std.proofs.Common.{◌≡◌, ℕ, ◌<◌, List, length, take, sym, subst}
use Rattle.wire_parts.specs.Stream.{extended}
use Rattle.cache_tcp.specs.Steps.{spot_at}
use Rattle.cache_tcp.proofs.Runs.{comes_at}
use Rattle.cache_tcp.proofs.client.CacheClient.feed_piece.Goals as goal

pub returns-clause-ok : goal.returns-clause-ok
returns-clause-ok c =
    let held = c.args.self.now.conn.held.items in
    let count = c.piece_len-count.result in
    let from = c.args.self.now.served in
    let some = c.piece_len-count.ensures.some (subst (λ (l : List ℕ). 0 < length l) (sym c.as_slice.ensures) c.requires) in
    comes_at held c.use_held.new.self.held.items count from c.feed.new.self some c.requires c.use_held.ensures.held
    (subst (λ (l : List ℕ). c.feed.new.self ≡ spot_at (extended from.place (take count l)) from.count) c.as_slice-2.ensures c.in_ok-feed.ensures.ok)
