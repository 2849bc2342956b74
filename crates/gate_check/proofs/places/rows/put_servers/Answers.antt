use Rattle.std.proofs.Common.{◌++◌, [], ◌∷◌, List, ℕ, take, sym, ap, ◌∙◌, subst}
use Rattle.gate_coverage.specs.Pools.{pool_server_at, servers_at}
use Rattle.gate_check.specs.Valid.{IsRising}
use Rattle.gate_coverage.proofs.TakenPools.{at_append, pools_more}
use Rattle.gate_check.proofs.places.rows.put_servers.Goals as goal

pub loop-pool-preserved : goal.loop-pool-preserved
loop-pool-preserved c =
    let residue = c.args.residue in
    let pools = c.args.pools.now in
    let i = c.loop-pool.pool-index in
    let pool = c.pool-item.result in
    record {
      servers = c.in_ok-push.ensures.items ∙ ap (λ (s : ℕ). c.loop-pool.row.items ++ s ∷ []) c.at-server.ensures ∙ ap (λ (l : List ℕ). l ++ pool_server_at residue pool ∷ []) c.loop-pool.invariant.servers
          ∙ sym (ap (servers_at residue) (pools_more pools i pool c.loop-pool-test.true c.pool-item.is) ∙ at_append residue (take i pools) (pool ∷ []));
      rising = λ t. subst IsRising (sym c.in_ok-push.ensures.items)
          (subst (λ (l : List ℕ). IsRising (l ++ c.at-server.result ∷ [])) c.deref.ensures.value (c.still_rises-rises.ensures (λ k. subst IsRising (sym c.deref.ensures.value) (c.loop-pool.invariant.rising k)) t));
    }
