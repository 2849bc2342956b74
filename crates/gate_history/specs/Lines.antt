-- The first line of a text, and why a line says no generation. Source: mcgate's own.
use Rattle.std.specs.Prelude.{◌≡◌, ◌≢◌, ℕ, List, [], ◌∷◌, ◌++◌}
use Rattle.gate_growth.specs.declared.ledger.page.Beginning.{Beginning}
use Rattle.gate_history.specs.declared.lines.BadLine.{BadLine}
use Rattle.gate_history.specs.declared.lines.BadLine.TheVariants as lines
use Rattle.gate_history.specs.declared.lines.Said.{Said}
use Rattle.gate_history.specs.Spelled.{body_of, summed, generation_line}

-- this byte isn't among them
abbrev pub Lacks : ℕ → List ℕ → Type 0
Lacks byte [] = Unit {0}
Lacks byte (b ∷ bytes) = (b ≢ byte) × Lacks byte bytes

-- the bytes are cut at the first of this byte
abbrev pub IsCutAt : ℕ → List ℕ → List ℕ → List ℕ → Type 0
IsCutAt byte bytes front rest = (bytes ≡ front ++ byte ∷ rest) × Lacks byte front

-- the line is that of the generation of this number, as it is said
abbrev pub LineIsSaid : ℕ → List ℕ → Said → Type 0
LineIsSaid number line said = line ≡ generation_line number said.began said.config.now

-- its sum is of something else; or it is right, and the line is of no generation of this number
abbrev pub IsBadLine : ℕ → List ℕ → BadLine → Type 0
IsBadLine number line lines.Edited = (body : List ℕ) → line ≢ summed body
IsBadLine number line lines.OutOfOrder = (body : List ℕ) × (line ≡ summed body) × ((began : Beginning) (config : List ℕ) → body ≢ body_of number began config)
IsBadLine number line lines.NoMemory = Unit {0}
