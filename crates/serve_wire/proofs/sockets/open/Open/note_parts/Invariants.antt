use Rattle.std.proofs.Common.{◌≡◌, take, drop}
use Rattle.std.specs.Io.Slices.{io_slices_bytes}
use Rattle.serve_wire.specs.Events.{with_more}
use Rattle.serve_wire.proofs.sockets.open.Open.note_parts.Given as goal

-- what is left to note makes of it what all makes of its begin
abbrev pub invariant-loop-part : goal.invariant-loop-part
invariant-loop-part l = with_more (take l.left (io_slices_bytes (drop l.part-index l.parts))) l.log.events ≡ with_more (take l.count (io_slices_bytes l.parts)) l.initial.log.events
