use Rattle.std.proofs.Common.{◌≡◌, ◌<◌, ◌≤◌, ◌^◌, length, take}
use Rattle.gate_growth.specs.Marks.{IsMarkOf}
use Rattle.gate_growth.specs.Pages.{is_any}
use Rattle.gate_history.specs.Concerning.{plans_for}
use Rattle.gate_history.proofs.concerns.first_left.Given as goal

abbrev pub invariant-loop-generation : goal.invariant-loop-generation
invariant-loop-generation l = record {
  within : l.generation-index ≤ length l.generations;
  number : length l.generations < 2 ^ 32 → l.number ≡ l.generation-index;
  marks : length l.generations < 2 ^ 32 → IsMarkOf (is_any l.fn.began) (plans_for l.at.hash l.at.text.now (take l.generation-index l.generations)) l.server l.mark;
}
