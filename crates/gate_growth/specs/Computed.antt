-- Marks, computed from one tree to the next.
use Rattle.std.specs.Prelude.{ℕ, Bool, not, ◌&&◌, ◌||◌, Option, Some, None, if◌then◌else◌}
use Rattle.gate_growth.specs.declared.ledger.mark.Mark.{Mark}

-- the first so far, else this one where it leaves the server
abbrev pub first_left : Option ℕ → ℕ → Bool → Option ℕ
first_left (Some first) number leaves = Some first
first_left None number leaves = if leaves then Some number else None

-- for which one a tree is refused
abbrev pub refusal : Option ℕ → ℕ → Bool → Bool → Option ℕ
refusal left number taken clear = if taken then first_left left number (not clear) else None

-- what the tree puts there counts before what it clears
abbrev pub mark_after : ℕ → Bool → Bool → Mark → Mark
mark_after number clear stored mark = record { held = mark.held || stored; left = first_left mark.left number ((mark.held || stored) && not clear) }
