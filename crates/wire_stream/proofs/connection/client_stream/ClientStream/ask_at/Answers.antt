use Rattle.std.proofs.Common.{ℕ, List, ap, sym, subst, ◌∙◌}
use Rattle.wire_stream.specs.Message.{IsReadFrom}
use Rattle.wire_stream.specs.Held.{bytes_at}
use Rattle.wire_stream.proofs.Fronts.{front_is}
use Rattle.wire_stream.proofs.connection.client_stream.ClientStream.ask_at.Goals as goal

pub ask-requires-clause-read : goal.ask-requires-clause-read
ask-requires-clause-read c =
    subst (λ (bytes : List ℕ). IsReadFrom bytes c.args.request.now) (sym (c.received.ensures ∙ ap bytes_at c.self.view_is)) (front_is c.args.self.now c.args.request.now c.requires.read).read
