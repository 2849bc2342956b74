use Rattle.std.proofs.Common.{rules, ◌≡◌}
use Rattle.std.proofs.lemmas.Fn.{always_returns_same}
use Rattle.std.proofs.lemmas.List.Filters.{dedup_is}
use Rattle.gate_check.proofs.SortedRows.{sorted_row}
use Rattle.gate_check.proofs.places.rows.put_row.Goals as goal

pub returns : goal.returns
returns c =
    let up = c.sort_unstable_by_key.ensures.sorted (λ x. x) (always_returns_same _ (λ a r. r ≡ a.0.now) _ (λ a r f k. search rules)) in
    sorted_row c.args.residue c.args.pools.now c.put_servers.new.row.items c.sort_unstable_by_key.new.self.items c.dedup.new.self.items c.in_ok-put_servers.ensures.servers c.sort_unstable_by_key.ensures.permutation up (dedup_is _ _ _ c.dedup.ensures.filtered)
