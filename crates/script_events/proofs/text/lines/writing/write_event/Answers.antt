use Rattle.std.proofs.Common.{◌<◌, ◌^◌, sym, subst, arith}
use Rattle.script_events.specs.declared.script.Event.{Event}
use Rattle.script_events.specs.Scripted.{scripted_of}
use Rattle.script_events.specs.LineLaws.{AreBytes, HasWidths}
use Rattle.script_events.proofs.Widths.{on_ok}
use Rattle.script_events.proofs.text.lines.writing.write_event.Goals as goal

pub returns-in-Piece-clause-widths : goal.returns-in-Piece-clause-widths
returns-in-Piece-clause-widths g c =
    let bytes = subst AreBytes c.as_slice.ensures.value c.in_escapes-bytes.ensures.widths in
    on_ok c.writeln.result _ (subst (λ (e : Event). HasWidths (scripted_of e)) (sym c.in-Piece.is) bytes)

pub returns-in-Add-clause-widths : goal.returns-in-Add-clause-widths
returns-in-Add-clause-widths g c =
    let bytes = subst AreBytes c.as_slice-in-Add.ensures.value c.in_escapes-bytes-in-Add.ensures.widths in
    on_ok c.writeln-in-Add.result _ (subst (λ (e : Event). HasWidths (scripted_of e)) (sym c.in-Add.is) bytes)

pub returns-in-Hold-clause-widths : goal.returns-in-Hold-clause-widths
returns-in-Hold-clause-widths g c =
    let number : c.in-Hold.server < 2 ^ 32 = omega (arith, c.number.ensures, c.number.type_inv) in
    let key = subst AreBytes c.as_bytes.ensures c.in_escapes-key.ensures.widths in
    let content = subst AreBytes c.as_slice-in-Hold.ensures.value c.in_escapes-content.ensures.widths in
    on_ok c.writeln-in-Hold.result _ (subst (λ (e : Event). HasWidths (scripted_of e)) (sym c.in-Hold.is) (number, key, content))
