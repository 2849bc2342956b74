-- One more command that is counted. Source: mcgate's own.
use Rattle.std.specs.Prelude.{◌≡◌, ℕ, ◌+◌}
use Rattle.script_run.specs.declared.driver.tally.Tally.{Tally}

-- one more command, of which so many are stale
pub record IsOneMoreCommand (old : Tally) (stale : ℕ) (new : Tally) : Type 0 where
  pub commands_is : new.commands ≡ old.commands + 1
  pub stale_is : new.stale ≡ old.stale + stale
