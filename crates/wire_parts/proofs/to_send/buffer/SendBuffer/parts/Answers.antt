use Rattle.std.proofs.Common.{◌≡◌, ◌∙◌}
use Rattle.std.specs.Io.Slices.{io_slice_bytes}
use Rattle.wire_parts.specs.Sending.{part_at}
use Rattle.wire_parts.proofs.ToSendParts.{four_begin}
use Rattle.wire_parts.proofs.to_send.buffer.SendBuffer.parts.Goals as goal

pub returns : goal.returns
returns c =
    let ps = c.args.self.now.pieces.items in
    let text = c.args.self.now.text.items in
    let all = four_begin ps text in
    let a : io_slice_bytes c.new.result ≡ part_at 0 ps text = c.new.ensures ∙ c.part.ensures in
    let b : io_slice_bytes c.new-2.result ≡ part_at 1 ps text = c.new-2.ensures ∙ c.part-2.ensures in
    let d : io_slice_bytes c.new-3.result ≡ part_at 2 ps text = c.new-3.ensures ∙ c.part-3.ensures in
    let e : io_slice_bytes c.new-4.result ≡ part_at 3 ps text = c.new-4.ensures ∙ c.part-4.ensures in
    let whole = all.1 in
    (all.0, cc)
