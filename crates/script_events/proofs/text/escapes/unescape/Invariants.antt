use Rattle.std.proofs.Common.{◌≡◌, ◌≤◌, ◌-◌, ◌++◌, length, drop}
use Rattle.std.specs.Option.{option_map}
use Rattle.script_events.specs.Escapes.{unescaped}
use Rattle.script_events.proofs.text.escapes.unescape.Given as goal

abbrev pub invariant-loop-at : goal.invariant-loop-at
invariant-loop-at l = record {
  within : l.at ≤ length l.text;
  so_far : unescaped l.text ≡ option_map (λ more. l.bytes.items ++ more) (unescaped (drop l.at l.text));
}

abbrev pub decreases-loop-at : goal.decreases-loop-at
decreases-loop-at l = length l.text - l.at
