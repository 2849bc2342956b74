use Rattle.std.proofs.Common.{◌≡◌, ◌++◌, length, take, drop, ◌+◌, ◌-◌, sym, ap, ◌∙◌, min}
use Rattle.std.specs.Io.Slices.{io_slices_bytes}
use Rattle.serve_wire.specs.Events.{with_more}
use Rattle.serve_wire.proofs.Pieces.{from_here, take_both, more_and_more}
use Rattle.serve_wire.proofs.sockets.open.Open.note_parts.Goals as goal

pub loop-part-preserved : goal.loop-part-preserved
loop-part-preserved c =
    let parts = c.args.parts.now in let at = c.loop-part.part-index in let left = c.loop-part.left in
    let bytes = c.as_slice-bytes.result.now in let count = c.min-taken.result in
    let rest = io_slices_bytes (drop (at + 1) parts) in
    let h = c.loop-part.log.events in
    let here : io_slices_bytes (drop at parts) ≡ bytes ++ rest = from_here parts at _ bytes c.loop-part-test.true c.as_slice-bytes.ensures in
    let counted : count ≡ min (length bytes) left = c.min-taken.ensures in
    ap (with_more (take (left - count) rest)) c.extend.ensures ∙ more_and_more (take count bytes) (take (left - count) rest) h
    ∙ ap (λ l. with_more l h) (take_both left count bytes rest counted) ∙ ap (λ l. with_more (take left l) h) (sym here) ∙ c.loop-part.invariant
