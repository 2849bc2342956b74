use Rattle.wire_stream.proofs.ClientStreams.{either_kept}
use Rattle.wire_stream.proofs.connection.client_stream.ClientStream.feed.Goals as goal

pub invariant_of-self : goal.invariant_of-self
invariant_of-self c = either_kept c.feed.result c.self.inside.stream c.feed.new.self c.args.piece.now c.self.inside.walk c.self.invariant c.feed.ensures.ok c.feed.ensures.err
