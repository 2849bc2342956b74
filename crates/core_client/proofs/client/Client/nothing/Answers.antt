use Rattle.wire_stream.proofs.Fronts.{more_stuck}
use Rattle.core_client.proofs.Resting.{later_none}
use Rattle.core_client.proofs.client.Client.nothing.Goals as goal

pub returns-then-is_free : goal.returns-then-is_free
returns-then-is_free c = λ depth. (c.is_free.ensures.0 c.if-is_free.true, more_stuck c.args.self.now.stream c.requires)

pub returns-else-is_free : goal.returns-else-is_free
returns-else-is_free c = later_none c.args.self.now c.requires
