use Rattle.std.proofs.Common.{ℕ, List, ap, subst, ◌∙◌}
use Rattle.wire_classic.specs.Asks.{asks_taken}
use Rattle.wire_stream.specs.Message.{message_in}
use Rattle.wire_stream.specs.Asks.{asks_of, IsWalk}
use Rattle.wire_stream.specs.Held.{bytes_at}
use Rattle.wire_stream.proofs.ClientStreams.{counted_one, next_is}
use Rattle.wire_stream.proofs.connection.client_stream.Walk.step.Goals as goal

pub returns-clause-at : goal.returns-clause-at
returns-clause-at c =
    let walk = c.args.self.now in
    let place = c.args.stream.now in
    let next = c.in_ok-next.field-0 in
    record {
      read = c.requires.at.read;
      asks = subst (λ (bytes : List ℕ). IsWalk bytes c.next.new.self) c.received.ensures c.in_ok-next.ensures.walk;
      request = c.in_ok-next.ensures.request ∙ c.requires.at.request;
      taken = c.in_ok-next.ensures.taken ∙ ap (λ n. asks_taken next n) c.requires.at.taken
          ∙ counted_one next (asks_of (message_in (bytes_at place) walk.request)) walk.taken (next_is place walk c.received.result next c.received.ensures c.requires.at c.in_ok-next.ensures.value) c.requires.there;
    }
