use Rattle.std.proofs.Common.{◌≡◌, ℕ, ◌+◌, ◌-◌, take, drop, sym, ap, ◌∙◌, arith}
use Rattle.std.specs.List.{list_all}
use Rattle.mc_types.specs.KeyText.{is_key_byte}
use Rattle.wire_parts.proofs.GroupLemmas.{group_more}
use Rattle.wire_parts.proofs.key_bytes.groups_end.Goals as goal

pub loop-len-preserved : goal.loop-len-preserved
loop-len-preserved c =
    let text = c.args.text.now in
    let len = c.loop-len.len in
    let size = c.args.size in
    let whole : size ≡ len + size - len = omega arith in
    record {
      inside = omega (arith, c.loop-len.invariant.inside, c.loop-len-test.true);
      good = group_more len size text c.loop-len.invariant.good (ap (λ (n : ℕ). list_all is_key_byte (take n (drop len text))) whole ∙ sym c.are_good.ensures ∙ c.if-are_good.true);
    }
