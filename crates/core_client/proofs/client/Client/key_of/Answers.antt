use Rattle.std.proofs.Common.{ℕ, ◌<◌, ◌≤◌, inl, inr, ◌∙◌, subst}
use Rattle.wire_stream.proofs.Fronts.{front_is}
use Rattle.core_client.proofs.Resting.{later_key}
use Rattle.core_client.proofs.client.Client.key_of.Goals.{then-self-via-then-self, then-self-via-else-self+then-depth-len, then-self-via-else-self+else-depth-len+then-asks-self}
use Rattle.core_client.proofs.client.Client.key_of.Goals as goal

pub returns-then-self : goal.returns-then-self
returns-then-self c =
    let x = c.args.self.now in
    let front = front_is x.stream c.args.request.now c.requires.at in
    later_key x c.args.request.now c.args.depth c.requires.at c.requires.some
    (elim c.then-self.branch [
      | then-self-via-then-self w ↦ inl w.if-self.true
      | then-self-via-else-self+then-depth-len w ↦ inr (inl (subst (λ (n : ℕ). c.args.depth ≤ n) (w.len.ensures ∙ x.queue.ok.0) w.if-depth-len.true))
      | then-self-via-else-self+else-depth-len+then-asks-self w ↦ inr (inr (subst (λ (n : ℕ). n ≤ x.index) (w.asks.ensures _ front.read) w.if-asks-self.true))
    ])

pub returns : goal.returns
returns c =
    let x = c.args.self.now in
    let front = front_is x.stream c.args.request.now c.requires.at in
    (record { stands = front.stands; is_read = front.read; there = subst (λ (n : ℕ). x.index < n) (c.asks.ensures _ front.read) c.if-asks-self.false; ready = c.if-self.false; served = c.requires.served }, subst (λ (n : ℕ). n < c.args.depth) (c.len.ensures ∙ x.queue.ok.0) c.if-depth-len.false)
