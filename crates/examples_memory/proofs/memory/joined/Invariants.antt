use Rattle.std.proofs.Common.{◌≡◌, ◌++◌, drop}
use Rattle.std.specs.Io.Slices.{io_slices_bytes}
use Rattle.examples_memory.proofs.memory.joined.Given as goal

-- what is there and what is left are all
abbrev pub invariant-loop-part : goal.invariant-loop-part
invariant-loop-part l = l.bytes.items ++ io_slices_bytes (drop l.part-index l.parts) ≡ io_slices_bytes l.parts
