-- What stops the program on the way.
use Rattle.std.proofs.Common.{◌≡◌, ℕ, ◌≤◌, List, Option, Result, Ok, Err, arith, sym, subst}
use Rattle.std.specs.declared.io.ErrorKind.{ErrorKind}
use Rattle.std.specs.declared.io.ErrorKind.TheVariants.{OutOfMemory}
use Rattle.mcgate_lines.specs.Faults.{StopsUnwritten}
use Rattle.mcgate_lines.specs.declared.status.RunFault.{RunFault}
use Rattle.mcgate_lines.specs.declared.status.RunFault.TheVariants.{NoMemory, Writer, TooManyCalls}
use Rattle.mcgate_ends.specs.Ends.{StopBreaksOff, BreaksRunOff, RunsText}
use Rattle.mcgate_ends.specs.Stops.{stop_at, stop_by, EndsProgram}
use Rattle.mcgate_ends.specs.declared.ends.Stop.{Stop}
use Rattle.mcgate_ends.specs.declared.ends.Stop.TheVariants as stops

broken_at : (k : ErrorKind) → StopBreaksOff (stop_at k)
broken_at OutOfMemory = tt
broken_at _ = tt

-- a device's error is no refusal of the arguments
pub broken_off : (stop : Stop) (k : ErrorKind) → stop ≡ stop_at k → StopBreaksOff stop
broken_off stop k is = subst StopBreaksOff (sym is) (broken_at k)

stopped_by : (old new : Option (List ℕ)) (fault : RunFault) → StopsUnwritten old new fault → BreaksRunOff (new ≡ old) ⊥ (stop_by fault)
stopped_by old new NoMemory kept = kept
stopped_by old new Writer kept = tt
stopped_by old new TooManyCalls kept = absurd kept

-- what makes no calls has never too many, and where memory was refused it wrote nothing
pub stopped : (old new : Option (List ℕ)) (fault : RunFault) (stop : Stop) → stop ≡ stop_by fault → StopsUnwritten old new fault → BreaksRunOff (new ≡ old) ⊥ stop
stopped old new fault stop is kept = subst (BreaksRunOff (new ≡ old) ⊥) (sym is) (stopped_by old new fault kept)

-- a run that answered so ends so
pub ran : (P : List ℕ → Option (List ℕ) → Option (List ℕ) → ℕ → Type 0) (M O : List ℕ → Option (List ℕ) → Option (List ℕ) → Type 0) (text : List ℕ) (old new : Option (List ℕ)) (answer : ℕ) (result : Result ℕ Stop)
    → EndsProgram answer result → (answer ≤ 2 → P text old new answer) → (answer ≡ 3 → M text old new) → (answer ≡ 5 → O text old new) → RunsText P M O text old new result
ran P M O text old new answer (Ok status) ends does refused too_many = subst (P text old new) (sym ends.0) (does ends.1)
ran P M O text old new answer (Err stops.Usage) ends does refused too_many = absurd ends
ran P M O text old new answer (Err (stops.Key fault)) ends does refused too_many = absurd ends
ran P M O text old new answer (Err stops.Memory) ends does refused too_many = refused ends
ran P M O text old new answer (Err stops.Device) ends does refused too_many = tt
ran P M O text old new answer (Err stops.Calls) ends does refused too_many = too_many ends

pub never : (answer : ℕ) → answer ≤ 4 → answer ≡ 5 → ⊥
never answer few five = omega (arith, few, five)
