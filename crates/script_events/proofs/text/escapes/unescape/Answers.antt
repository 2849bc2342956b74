use Rattle.std.proofs.Common.{arith}
use Rattle.std.proofs.lemmas.List.{length-drop}
use Rattle.script_events.proofs.EscapeLemmas.{rest_is, reads_on}
use Rattle.script_events.proofs.text.escapes.unescape.Goals as goal

pub loop-at-preserved : goal.loop-at-preserved
loop-at-preserved c =
    let here = rest_is c.args.text.now c.loop-at.at in
    let front = rw here at c.in-Some.ensures in
    record {
      within = omega (arith, front.1, length-drop c.loop-at.at c.args.text.now);
      so_far = reads_on c.args.text.now c.loop-at.at c.in-Some.spelled.len c.in-Some.spelled.byte c.loop-at.bytes.items _ c.loop-at.invariant.so_far front.2 c.in_ok-push.ensures.items;
    }
