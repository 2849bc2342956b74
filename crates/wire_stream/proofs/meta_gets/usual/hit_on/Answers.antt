use Rattle.std.proofs.Common.{refl, sym, arith}
use Rattle.wire_stream.proofs.Hits.{is_usual}
use Rattle.wire_stream.proofs.meta_gets.usual.hit_on.Goals as goal

pub returns : goal.returns
returns c =
    is_usual c.args.key.now c.args.bytes.now c.in_ok-after.after.now c.digits.result.0.now c.digits.result.1.now c.in_ok-after_key_letter.field-0.now c.in_ok-after-2.after.now c.in_ok-after-3.after.now
    c.digits-2.result.0.now c.digits-2.result.1.now c.in_ok-rest.rest.now c.in_ok-after-4.after.now
    _ c.in_ok-after.ensures c.digits.ensures c.in_ok-after_key_letter.ensures c.in_ok-after-2.ensures c.in_ok-after-3.ensures c.digits-2.ensures c.in_ok-rest.ensures
    (sym c.in_ok-len.ensures) (sym c.in_ok-flags.ensures) (omega (arith, c.in_ok-after-4.ensures.len)) c.in_ok-after-4.ensures.data refl refl
