use Rattle.std.proofs.Common.{arith}
use Rattle.wire_meta.proofs.WriteLemmas.{led-token}
use Rattle.wire_meta.proofs.writer.put_tokens.Goals as goal

pub loop-token-preserved : goal.loop-token-preserved
loop-token-preserved c = led-token c.args.out.now.items c.args.tokens.now c.loop-token.token-index c.token-item.result _ _ (omega arith) c.token-item.is c.loop-token.invariant c.in_ok-put_token.ensures.ok
