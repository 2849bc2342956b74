use Rattle.std.proofs.Common.{◌≡◌, length}
use Rattle.wire_answers.specs.Tokens.{asks_opaque}
use Rattle.wire_answers.proofs.meta.token.asks_opaque.Given as goal

abbrev pub invariant-loop-rest : goal.invariant-loop-rest
invariant-loop-rest l = asks_opaque l.rest l.text ≡ asks_opaque l.tokens l.text

abbrev pub decreases-loop-rest : goal.decreases-loop-rest
decreases-loop-rest l = length l.rest
