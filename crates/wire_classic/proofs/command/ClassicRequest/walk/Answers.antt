use Rattle.wire_classic.proofs.WalkLemmas.{starts}
use Rattle.wire_classic.proofs.command.ClassicRequest.walk.Goals as goal

pub returns-clause-walk : goal.returns-clause-walk
returns-clause-walk c = λ bytes h. starts bytes c.args.self.now c.first_place.result c.first_place.ensures h
