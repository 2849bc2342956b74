-- What polls of clients gave, one after another. Source: mcgate's own.
use Rattle.std.specs.Prelude.{◌≡◌, ◌⊎◌, ℕ, ◌<◌}
use Rattle.core_proxy.specs.Polls.{IsStalled}
use Rattle.core_proxy.specs.declared.note.Poll.{Poll}
use Rattle.core_proxy.specs.declared.note.Poll.TheVariants as polls
use Rattle.core_proxy.specs.declared.proxy.Core.{Core}
use Rattle.script_run.specs.Running.{ClientIsIdle}
use Rattle.script_run.specs.declared.driver.runner.Progress.{Progress}
use Rattle.script_run.specs.declared.driver.runner.Progress.TheVariants.{Idle, Waits, Moved}
use Rattle.script_run.specs.declared.driver.runner.Runner.{Runner}

-- what two polls together gave: something was done where one of them did something, and nothing is left to do where neither has anything left
abbrev pub both_gave : Progress → Progress → Progress
both_gave Idle other = other
both_gave Waits Idle = Waits
both_gave Waits Waits = Waits
both_gave Waits Moved = Moved
both_gave Moved other = Moved

-- an answer of the core is taken so: where nothing was done, all is as it was
abbrev pub TakesSo : Poll → Progress → Runner → Runner → Type 0
TakesSo poll Idle old new = (poll ≡ polls.Idle) × (new ≡ old)
TakesSo poll Waits old new = ((poll ≡ polls.Waiting) ⊎ (poll ≡ polls.Busy)) × (new ≡ old)
TakesSo poll Moved old new = Unit {0}

-- a poll of a client leaves this: where nothing was done, all is as it was, and nothing can be done for the client without a result
abbrev pub LeavesSo : Progress → ℕ → Runner → Runner → Type 0
LeavesSo Idle client old new = (new ≡ old) × ClientIsIdle old.core client
LeavesSo Waits client old new = (new ≡ old) × IsStalled old.core client
LeavesSo Moved client old new = Unit {0}

-- polls of so many clients leave this: where nothing was done, nothing can be done for any of the clients without a result
abbrev pub AreStillBelow : Progress → ℕ → Core → Type 0
AreStillBelow Idle count core = (c : ℕ) → c < count → ClientIsIdle core c
AreStillBelow Waits count core = (c : ℕ) → c < count → IsStalled core c
AreStillBelow Moved count core = Unit {0}

-- polls of all clients that were opened leave this: where nothing was done, nothing can be done for any of them without a result
abbrev pub LeavesAllStill : Progress → Runner → Type 0
LeavesAllStill progress runner = AreStillBelow progress runner.clients runner.core
