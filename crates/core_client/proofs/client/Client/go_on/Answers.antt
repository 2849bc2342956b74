use Rattle.std.proofs.Common.{ℕ, ◌+◌, ◌≤◌, ◌||◌, length, drop, sym, refl, ap, ◌∙◌, subst, nat_eq, arith}
use Rattle.std.specs.Prelude.{true, false}
use Rattle.wire_parts.specs.declared.skip.Skip.TheVariants.{Nothing}
use Rattle.wire_parts.specs.Stream.{Stands}
use Rattle.wire_stream.specs.Held.{bytes_at}
use Rattle.wire_stream.specs.Replies.{is_failure}
use Rattle.wire_stream.proofs.Fronts.{used_held}
use Rattle.core_client.proofs.Places.{went_on}
use Rattle.core_client.proofs.client.Client.go_on.Goals as goal

pub overflow_add-last : goal.overflow_add-last
overflow_add-last c =
    let small = c.asks-count.type_inv in
    let count = c.asks-count.ensures (bytes_at c.args.self.now.stream) c.requires.read in
    let there = c.requires.there in
    omega (arith, small, count, there)

pub pass_request-requires : goal.pass_request-requires
pass_request-requires c =
    let x = c.args.self.now in
    subst (λ (n : ℕ). n ≤ length (bytes_at x.stream)) (sym c.used.ensures) (used_held x.stream c.args.request.now (record { stands = c.requires.stands; read = c.requires.read }))

pub returns-then-ends_message-clause-front : goal.returns-then-ends_message-clause-front
returns-then-ends_message-clause-front c =
    let x = c.args.self.now in
    went_on x (record x { stream = c.pass_request.new.self; index = 0; waits = false }) c.args.request.now c.args.reply.now true c.requires
    (ap (λ n. is_failure c.args.reply.now || nat_eq (x.index + 1) n) (sym (c.asks-count.ensures (bytes_at x.stream) c.requires.read)) ∙ sym c.ends_message.ensures ∙ c.if-ends_message.true)
    (λ i. record { place = (c.pass_request.ensures.passed (bytes_at x.stream) c.requires.stands ∙ ap (λ n. Stands Nothing (drop n (bytes_at x.stream))) c.used.ensures) i; index = 0; waits = false })

pub returns-else-ends_message-clause-front : goal.returns-else-ends_message-clause-front
returns-else-ends_message-clause-front c =
    let x = c.args.self.now in
    went_on x (record x { index = x.index + 1; waits = false }) c.args.request.now c.args.reply.now false c.requires
    (ap (λ n. is_failure c.args.reply.now || nat_eq (x.index + 1) n) (sym (c.asks-count.ensures (bytes_at x.stream) c.requires.read)) ∙ sym c.ends_message.ensures ∙ c.if-ends_message.false)
    refl
