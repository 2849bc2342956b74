use Rattle.std.proofs.Common.{◌≡◌, ℕ, ◌<◌, List, length, sym, subst, ◌∙◌}
use Rattle.std.specs.Prelude.{slice_get}
use Rattle.mc_types.specs.declared.ask.Ask.{Ask}
use Rattle.wire_parts.specs.Stream.{Place}
use Rattle.wire_stream.specs.declared.requests.request.Request.{Request}
use Rattle.wire_stream.specs.Message.{message_in}
use Rattle.wire_stream.specs.Asks.{asks_of}
use Rattle.wire_stream.specs.Held.{bytes_at}
use Rattle.wire_stream.proofs.ClientStreams.{same_asks}
use Rattle.wire_stream.proofs.connection.client_stream.ClientStream.walk_to.Goals as goal

pub go_to-requires-clause-there : goal.go_to-requires-clause-there
go_to-requires-clause-there c =
    let walk = c.walk_before-walk.result in
    subst (λ (p : Place). c.args.i < length (asks_of (message_in (bytes_at p) walk.request))) (sym c.self.view_is)
    (subst (λ (xs : List Ask). c.args.i < length xs) (same_asks c.args.self.now c.args.request.now walk.request c.requires.read c.walk_before-walk.ensures.at.read) c.requires.there)

pub ask-requires-clause-there : goal.ask-requires-clause-there
ask-requires-clause-there c =
    let walk = c.walk_before-walk.result in
    let asks : Request → List Ask = λ r. asks_of (message_in (bytes_at c.self.inside.stream) r) in
    subst (λ (n : ℕ). n < length (asks c.go_to.new.self.request)) (sym c.in_ok-go_to.ensures.taken)
    (subst (λ (r : Request). c.args.i < length (asks r)) (sym c.go_to.ensures.request)
    (subst (λ (p : Place). c.args.i < length (asks_of (message_in (bytes_at p) walk.request))) (sym c.self.view_is)
    (subst (λ (xs : List Ask). c.args.i < length xs) (same_asks c.args.self.now c.args.request.now walk.request c.requires.read c.walk_before-walk.ensures.at.read) c.requires.there)))

pub returns-clause-value : goal.returns-clause-value
returns-clause-value c =
    let walk = c.walk_before-walk.result in
    let same : asks_of (message_in (bytes_at c.args.self.now) c.args.request.now) ≡ asks_of (message_in (bytes_at c.self.inside.stream) c.go_to.new.self.request) =
    same_asks c.args.self.now c.args.request.now walk.request c.requires.read c.walk_before-walk.ensures.at.read ∙ (λ k. asks_of (message_in (bytes_at (sym c.self.view_is k)) (sym c.go_to.ensures.request k))) in
    (λ k. slice_get (same k) (sym c.in_ok-go_to.ensures.taken k)) ∙ c.in_ok-ask.ensures.value
