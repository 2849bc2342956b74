use Rattle.std.proofs.Common.{◌≡◌, ◌-◌, ◌∙◌, drop, ap, arith}
use Rattle.std.proofs.lemmas.List.{length-drop, length-take-le}
use Rattle.mc_types.specs.Padded.{zeros_of}
use Rattle.mc_types.proofs.KeyLemmas.{cleared, zeros_after}
use Rattle.mc_types.proofs.key.clear_after.Goals as goal

pub returns-then-len-before : goal.returns-then-len-before
returns-then-len-before c =
    let h = c.requires.lies in
    let room = length-take-le (c.args.before - c.args.len) (drop c.args.len c.args.bytes.now) (omega (arith, length-drop c.args.len c.args.bytes.now, h.whole, h.within, c.if-len-before.true)) in
    let filled : c.fill.new.self ≡ zeros_of (c.args.before - c.args.len) = c.fill.ensures.after (λ y same. same) ∙ ap zeros_of room in
    cleared c.args.len c.args.before c.args.bytes.now c.fill.new.self h c.if-len-before.true filled

pub returns-else-len-before : goal.returns-else-len-before
returns-else-len-before c = zeros_after c.args.len c.args.before c.args.bytes.now c.requires.lies c.if-len-before.false
