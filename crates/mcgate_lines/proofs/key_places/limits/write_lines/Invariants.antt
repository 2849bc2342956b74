use Rattle.std.specs.Io.KnownBytes.{Appends}
use Rattle.std.specs.List.{flat_map, range_with_len}
use Rattle.serde_json.specs.View.{view}
use Rattle.mcgate_lines.specs.LimitLines.{limits_line_of}
use Rattle.mcgate_lines.proofs.key_places.limits.write_lines.Given as goal

abbrev pub invariant-loop-number : goal.invariant-loop-number
invariant-loop-number g l =
    Appends (g.W.Write.contents l.initial.out) (g.W.Write.contents l.out)
    (flat_map (limits_line_of l.servers l.pools (view l.value) l.asked) (range_with_len 0 l.number))
