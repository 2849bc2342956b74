use Rattle.std.proofs.Common.{take}
use Rattle.wire_answers.specs.Fitting.{AreTexts}
use Rattle.script_events.proofs.servers.cutting.are_texts.Given as goal

abbrev pub invariant-loop-token : goal.invariant-loop-token
invariant-loop-token l = AreTexts (take l.token-index l.tokens)
