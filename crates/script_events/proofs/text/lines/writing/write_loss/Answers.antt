use Rattle.std.proofs.Common.{◌<◌, ◌^◌, sym, subst, arith}
use Rattle.script_events.specs.declared.servers.event.Loss.{Loss}
use Rattle.script_events.specs.Scripted.{loss_of}
use Rattle.script_events.specs.LineLaws.{AreBytes, LossHasWidths}
use Rattle.script_events.proofs.text.lines.writing.write_loss.Goals as goal

pub returns-in-Item-clause-widths : goal.returns-in-Item-clause-widths
returns-in-Item-clause-widths g c =
    let number : c.in-Item.server < 2 ^ 32 = omega (arith, c.number.ensures, c.number.type_inv) in
    let bytes = subst AreBytes c.as_bytes.ensures c.in_escapes-key.ensures.widths in
    subst (λ (l : Loss). LossHasWidths (loss_of l)) (sym c.in-Item.is) (number, bytes)
