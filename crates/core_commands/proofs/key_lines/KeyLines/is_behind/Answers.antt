use Rattle.std.proofs.Common.{sym}
use Rattle.core_commands.specs.Lines.{standing_before}
use Rattle.core_commands.proofs.Lines.{nobody_in_way}
use Rattle.core_commands.proofs.key_lines.KeyLines.is_behind.Goals as goal

pub returns-then-not-claim-2 : goal.returns-then-not-claim-2
returns-then-not-claim-2 c = sym (nobody_in_way c.args.key.now c.args.claim (standing_before c.args.client c.args.key.now c.args.self.now) c.if-not-claim.true c.if-not-claim-2.true)
