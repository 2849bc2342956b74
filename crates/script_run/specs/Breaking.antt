-- How far calls of a runner came that ended in a fault. Source: mcgate's own.
use Rattle.std.specs.Prelude.{◌≡◌, ◌⊎◌, ℕ, ◌+◌, ◌<◌, ◌^◌, List, ◌++◌}
use Rattle.script_events.specs.Limits.{last_turn}
use Rattle.script_events.specs.declared.servers.event.FleetFault.{FleetFault}
use Rattle.script_events.specs.declared.servers.event.FleetFault.TheVariants.{NoMemory, Spent}
use Rattle.core_proxy.specs.declared.fault.CoreFault.{CoreFault}
use Rattle.core_proxy.specs.declared.fault.CoreFault.TheVariants as faults
use Rattle.core_proxy.specs.declared.limits.TheConstants.{LAST_COMMAND}
use Rattle.core_proxy.specs.declared.proxy.Core.{Core}
use Rattle.script_events.specs.Servers.{turn_of}
use Rattle.script_events.specs.declared.servers.servers.ScriptServers.{ScriptServers}
use Rattle.script_run.specs.Results.{CallResult}
use Rattle.script_run.specs.Running.{Moves, MovesBy, MovesFed}
use Rattle.script_run.specs.declared.driver.runner.Runner.{Runner}

-- what a fault of the core is to a run: those that can't come end it as it ends out of memory
abbrev pub fleet_fault_of : CoreFault → FleetFault
fleet_fault_of faults.Spent = Spent
fleet_fault_of faults.NoMemory = NoMemory
fleet_fault_of faults.TooManyClients = NoMemory
fleet_fault_of faults.NoClient = NoMemory
fleet_fault_of faults.InputFull = NoMemory
fleet_fault_of faults.UnderWay = NoMemory
fleet_fault_of faults.NoTicket = NoMemory

-- ---- where numbers are spent

-- the last command has its number
abbrev pub IsLastBegun : FleetFault → Core → Type 0
IsLastBegun NoMemory core = Unit {0}
IsLastBegun Spent core = core.number ≡ LAST_COMMAND

-- the last call had its result
abbrev pub AreGivenAll : FleetFault → ScriptServers → Type 0
AreGivenAll NoMemory servers = Unit {0}
AreGivenAll Spent servers = turn_of servers ≡ last_turn

-- the last command has its number, or none of the next 2^32 calls can be numbered
abbrev pub AreSpent : FleetFault → Core → ScriptServers → Type 0
AreSpent NoMemory core servers = Unit {0}
AreSpent Spent core servers = (core.number ≡ LAST_COMMAND) ⊎ (last_turn < turn_of servers + 2 ^ 32)

-- ---- how far a call came

-- each log that stood before goes on up to a runner, for which nothing more could be done
pub record StopsAt (old : Runner) (fault : FleetFault) : Type 0 where
  pub mid : Runner
  pub moves : (servers : ScriptServers) → Moves old servers mid servers
  pub spent : IsLastBegun fault mid.core

-- each log that stood before goes on up to a runner, for which nothing more could be done, where a client said a beginning of these bytes
pub record StopsFed (client : ℕ) (bytes : List ℕ) (old : Runner) (fault : FleetFault) : Type 0 where
  pub mid : Runner
  pub said : List ℕ
  pub unsaid : List ℕ
  pub cut : bytes ≡ said ++ unsaid
  pub moves : (servers : ScriptServers) → MovesFed client said old servers mid servers
  pub spent : IsLastBegun fault mid.core

-- servers are as far as they were, or one call further
abbrev pub IsWithinOne : ScriptServers → ScriptServers → Type 0
IsWithinOne old new = (turn_of new ≡ turn_of old) ⊎ (turn_of new ≡ turn_of old + 1)

-- a result that was to come wasn't taken
pub record StopsGiving (fault : FleetFault) (before after : ScriptServers) : Type 0 where
  pub within : IsWithinOne before after
  pub all : AreGivenAll fault before

-- the servers gave some results, and each log that stood before goes on by them up to a runner, for which nothing more could be done, nor one result more be taken
pub record BreaksOffAfter (AreFit : List CallResult → Type 0) (old : Runner) (before : ScriptServers) (fault : FleetFault) (after : ScriptServers) : Type 0 where
  pub mid : Runner
  pub at : ScriptServers
  pub results : List CallResult
  pub fit : AreFit results
  pub moves : MovesBy results old before mid at
  pub within : IsWithinOne at after
  pub spent : AreSpent fault mid.core at
