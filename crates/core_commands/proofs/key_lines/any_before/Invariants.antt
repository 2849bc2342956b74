use Rattle.std.proofs.Common.{◌≡◌, drop}
use Rattle.core_commands.specs.Lines.{is_behind}
use Rattle.core_commands.proofs.key_lines.any_before.Given as goal

-- nobody who was looked at is in the way, and none of them is the client
abbrev pub invariant-loop-it : goal.invariant-loop-it
invariant-loop-it l = is_behind l.client l.key l.claim l.standing ≡ is_behind l.client l.key l.claim (drop l.it-index l.standing)
