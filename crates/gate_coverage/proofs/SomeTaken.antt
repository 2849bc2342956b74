-- What some operation takes, and that it is a server of the plain tree.
use Rattle.std.proofs.Common.{◌≡◌, ℕ, true, ◌||◌, ⊎_elim, subst}
use Rattle.mc_types.specs.declared.ask.Op.{Op}
use Rattle.mc_types.specs.declared.ask.Op.TheVariants.{Get, Gat, Set, Add, Replace, Append, Prepend, Cas, Delete, Incr, Decr, Touch}
use Rattle.mc_types.specs.declared.call.Origin.TheVariants.{Client}
use Rattle.fresh_runs.specs.Calls.{Call}
use Rattle.route_tree.specs.Each.{IsIn}
use Rattle.route_tree.specs.Plan.{Plan, IsGoodPlan}
use Rattle.route_tree.specs.Servers.{servers}
use Rattle.route_tree.specs.Word.{Given}
use Rattle.route_tree.proofs.Parts.{each_at}
use Rattle.route_tree.proofs.Servers as route_servers
use Rattle.gate_coverage.specs.Cover.{IsTaking, Takes}
use Rattle.gate_coverage.specs.Computed.{takes_server, is_taken}
use Rattle.gate_coverage.proofs.Choices.{either_left, either_right, either_split}
use Rattle.gate_coverage.proofs.Finding.{taken_is_exact}

module _ (plain : Plan) (good : IsGoodPlan plain) where
  pub takes : (op : Op) (s : ℕ) → IsTaking op → takes_server plain op s ≡ true → is_taken plain s ≡ true
  takes Get s t h = either_left (takes_server plain Get s || takes_server plain Gat s || takes_server plain Incr s) _ (either_left (takes_server plain Get s || takes_server plain Gat s) _ (either_left (takes_server plain Get s) _ h))
  takes Gat s t h = either_left (takes_server plain Get s || takes_server plain Gat s || takes_server plain Incr s) _ (either_left (takes_server plain Get s || takes_server plain Gat s) _ (either_right (takes_server plain Get s) _ h))
  takes Incr s t h = either_left (takes_server plain Get s || takes_server plain Gat s || takes_server plain Incr s) _ (either_right (takes_server plain Get s || takes_server plain Gat s) _ h)
  takes Decr s t h = either_right (takes_server plain Get s || takes_server plain Gat s || takes_server plain Incr s) _ h
  takes Set s t h = absurd t
  takes Add s t h = absurd t
  takes Replace s t h = absurd t
  takes Append s t h = absurd t
  takes Prepend s t h = absurd t
  takes Cas s t h = absurd t
  takes Delete s t h = absurd t
  takes Touch s t h = absurd t

  pub taken_takes : (s : ℕ) → is_taken plain s ≡ true → (op : Op) × IsTaking op × Takes plain op s
  taken_takes s h =
      ⊎_elim
      (λ l. ⊎_elim
      (λ k. ⊎_elim (λ a. (Get, tt, (taken_is_exact plain Get s good).0 a)) (λ a. (Gat, tt, (taken_is_exact plain Gat s good).0 a)) (either_split (takes_server plain Get s) (takes_server plain Gat s) k))
      (λ a. (Incr, tt, (taken_is_exact plain Incr s good).0 a))
      (either_split (takes_server plain Get s || takes_server plain Gat s) (takes_server plain Incr s) l))
      (λ a. (Decr, tt, (taken_is_exact plain Decr s good).0 a))
      (either_split (takes_server plain Get s || takes_server plain Gat s || takes_server plain Incr s) (takes_server plain Decr s) h)

  pub within : (op : Op) (s : ℕ) → Takes plain op s → IsIn s (servers plain)
  within op s t =
      let given : Given = record { reply = t.4; from = t.5 } in
      let c = t.7.1 in
      subst (λ n. IsIn n (servers plain)) c.2 (each_at (λ (call : Call). IsIn call.server (servers plain)) t.3 t.7.0 c.0 (route_servers.calls_stay plain t.0 Client 0 t.3 given t.6).1 c.1)
