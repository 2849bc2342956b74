-- What is counted of commands that ended, as it is kept. Source: mcgate's own.
use Rattle.std.specs.Prelude.{◌≡◌, ℕ, ◌+◌, ◌&&◌, Bool, List, Option, Some, bytes_eq, if◌then◌else◌}
use Rattle.std.specs.Ordering.{nat_cmp}
use Rattle.std.specs.BTreeMap.{get}
use Rattle.std.specs.Cmp.Lexicographic.{slice_cmp}
use Rattle.script_run.specs.declared.driver.counting.Counts.{Counts}
use Rattle.script_run.specs.Laws.{is_as_old}

-- the number of the last acknowledged delete of a key
abbrev pub last_delete_of : Counts → List ℕ → Option ℕ
last_delete_of counts key = get (slice_cmp nat_cmp) counts.gone key

-- a command ended: it is stale where it shows an item as old as the key's last acknowledged delete, and it is the last one of its key where it is acknowledged as a delete
pub record IsCounted (old : Counts) (number : ℕ) (key : List ℕ) (shown : Option ℕ) (acknowledged : Bool) (new : Counts) : Type 0 where
  pub commands : new.tally.commands ≡ old.tally.commands + 1
  pub stale : new.tally.stale ≡ old.tally.stale + (if is_as_old (last_delete_of old key) shown then 1 else 0)
  pub last : (k : List ℕ) → last_delete_of new k ≡ (if bytes_eq key k && acknowledged then Some number else last_delete_of old k)
