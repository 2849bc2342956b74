use Rattle.std.proofs.Common.{◌≡◌, ◌<◌, length, take, ap, ◌∙◌, subst, arith}
use Rattle.std.proofs.Math.Seq.{take-length}
use Rattle.wire_answers.specs.Fitting.{AreTexts}
use Rattle.script_events.proofs.Cuts.{texts_more}
use Rattle.script_events.proofs.servers.cutting.are_texts.Goals as goal

pub loop-token-init : goal.loop-token-init
loop-token-init c = tt

pub loop-token-preserved : goal.loop-token-preserved
loop-token-preserved c =
    let lt : c.loop-token.token-index < length c.args.tokens.now = omega (arith, c.loop-token-test.true) in
    texts_more c.args.tokens.now c.loop-token.token-index c.token-item.result lt c.token-item.is c.loop-token.invariant c.is_text.ensures

pub returns : goal.returns
returns c =
    let end : c.loop-token.token-index ≡ length c.args.tokens.now = omega (arith, c.loop-token-test.false, c.loop-token.auto.token-index-end) in
    subst AreTexts (ap (λ n. take n c.args.tokens.now) end ∙ take-length c.args.tokens.now) c.loop-token.invariant
