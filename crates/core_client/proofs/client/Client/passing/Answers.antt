use Rattle.core_client.proofs.Resting.{later_other, not_free}
use Rattle.core_client.proofs.client.Client.passing.Goals as goal

pub returns-else-is_free : goal.returns-else-is_free
returns-else-is_free c = let x = c.args.self.now in later_other x c.args.read.now c.requires.at c.requires.asks (not_free c.is_free.result x.queue.items c.is_free.ensures c.if-is_free.false)
