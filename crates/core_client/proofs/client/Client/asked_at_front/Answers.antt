use Rattle.std.proofs.Common.{ℕ, ◌<◌, ◌≤◌, subst}
use Rattle.wire_stream.proofs.Fronts.{more_stuck, front_is}
use Rattle.core_client.proofs.Resting.{no_key, no_more_keys}
use Rattle.core_client.proofs.client.Client.asked_at_front.Goals as goal

pub returns-then-self-asks-clause-some : goal.returns-then-self-asks-clause-some
returns-then-self-asks-clause-some c =
    let x = c.args.self.now in
    let front = front_is x.stream c.in-Keys.request c.in-Keys.ensures.0 in
    record { stands = front.stands; read = front.read; there = subst (λ (n : ℕ). x.index < n) (c.asks.ensures _ front.read) c.if-self-asks.true }

pub returns-else-self-asks-clause-none : goal.returns-else-self-asks-clause-none
returns-else-self-asks-clause-none c = λ h.
    let x = c.args.self.now in
    let front = front_is x.stream c.in-Keys.request c.in-Keys.ensures.0 in
    no_more_keys x c.in-Keys.request c.in-Keys.ensures.0 (subst (λ (n : ℕ). n ≤ x.index) (c.asks.ensures _ front.read) c.if-self-asks.false) h.0 h.1 h.2 h.3 h.4

pub returns-in-Nothing-clause-none : goal.returns-in-Nothing-clause-none
returns-in-Nothing-clause-none c = λ h. more_stuck c.args.self.now.stream c.in-Nothing.ensures h.0 h.1 h.3

pub returns-in-Passing-clause-none : goal.returns-in-Passing-clause-none
returns-in-Passing-clause-none c = λ h. let x = c.args.self.now in no_key x c.in-Passing._read c.in-Passing.ensures.0 c.in-Passing.ensures.1 x.index h.0 h.1 h.2 h.3 h.4
