use Rattle.std.proofs.Common.{rules, ◌≡◌}
use Rattle.std.proofs.lemmas.Fn.{always_returns_same}
use Rattle.std.proofs.lemmas.List.Filters.{dedup_is}
use Rattle.gate_gaps.proofs.Naming.{servers_once}
use Rattle.gate_gaps.proofs.server_uses.servers_of.Goals as goal

pub returns : goal.returns
returns c =
    let up = c.sort_unstable_by_key.ensures.sorted (λ x. x) (always_returns_same _ (λ a r. r ≡ a.0.now) _ (λ a r f k. search rules)) in
    servers_once c.args.plain.now c.add_servers.new.list.items c.sort_unstable_by_key.new.self.items c.dedup.new.self.items (search rules) c.sort_unstable_by_key.ensures.permutation up (dedup_is _ _ _ c.dedup.ensures.filtered)
