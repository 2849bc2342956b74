-- The servers of a script, and what each call leaves of them. Source: mcgate's own.
use Rattle.std.specs.Prelude.{◌≡◌, ℕ, ◌+◌, ℤ, pos, List, [], length, replicate, Option, None, option_map}
use Rattle.std.specs.Ordering.{nat_cmp}
use Rattle.std.specs.BTreeMap.{get}
use Rattle.mc_types.specs.declared.ask.Ask.{Ask}
use Rattle.fresh_runs.specs.Log as log
use Rattle.cache_server.specs.Contents.{Contents, empty}
use Rattle.script_events.specs.Limits.{capacity}
use Rattle.script_events.specs.Caches.{losses_named}
use Rattle.script_events.specs.declared.servers.event.FleetFault.{FleetFault}
use Rattle.script_events.specs.declared.servers.event.FleetFault.TheVariants.{NoMemory, Spent}
use Rattle.script_events.specs.declared.servers.event.Loss.{Loss}
use Rattle.script_events.specs.declared.servers.event.Made.{Made}
use Rattle.script_events.specs.Losing.{AreLost}
use Rattle.script_events.specs.Calling.{CallIsMade, IsRefused}
use Rattle.script_events.specs.declared.servers.manner.Manner.{Manner}
use Rattle.script_events.specs.declared.servers.manner.Manner.TheVariants.{Before, After, Cut, Junk}
use Rattle.script_events.specs.declared.servers.servers.ScriptServers.{ScriptServers}

-- how a call fails, as the log of a script has it
abbrev pub manner_of : Manner → log.Manner
manner_of Before = log.Before
manner_of After = log.After
manner_of (Cut count) = log.Cut count
manner_of Junk = log.Junk

-- the caches, by their places
abbrev pub caches_of : ScriptServers → List Contents
caches_of servers = servers.caches.items

-- how many servers there are
abbrev pub count_of_servers : ScriptServers → ℕ
count_of_servers servers = length (caches_of servers)

-- how many calls had their results
abbrev pub turn_of : ScriptServers → ℕ
turn_of servers = servers.turn

-- the time now, in seconds
abbrev pub moment_now : ScriptServers → ℤ
moment_now servers = servers.moment.seconds

-- how the call of this number is to fail, where it is named
abbrev pub named_of : ScriptServers → ℕ → Option log.Manner
named_of servers t = option_map manner_of (get nat_cmp servers.failures t)

-- what is lost just before the call of this number, in order
abbrev pub lost_of : ScriptServers → ℕ → List Loss
lost_of servers t = losses_named servers.losses t

-- no call was made or named, and nothing is held
pub record AreNewServers (count : ℕ) (servers : ScriptServers) : Type 0 where
  pub caches : caches_of servers ≡ replicate count (empty capacity)
  pub turn : turn_of servers ≡ 0
  pub moment : moment_now servers ≡ pos 0
  pub named : (t : ℕ) → named_of servers t ≡ None
  pub lost : (t : ℕ) → lost_of servers t ≡ []

-- the result of the next call: first what is named to be lost just before it is lost
pub record Answers (stamp : ℕ) (old : ScriptServers) (server : ℕ) (ask : Ask) (made : Made) (new : ScriptServers) : Type 0 where
  pub mid : List Contents
  pub lost : AreLost (lost_of old (turn_of old + 1)) (caches_of old) mid
  pub is_made : CallIsMade (named_of old (turn_of old + 1)) stamp (moment_now old) mid server ask made (caches_of new)
  pub turn_is : turn_of new ≡ turn_of old + 1

-- a call that has no result: it found no memory, after the losses named for it; or there was no number for it, and nothing changed
abbrev pub Stops : FleetFault → ℕ → ScriptServers → ℕ → Ask → ScriptServers → Type 0
Stops NoMemory stamp old server ask new =
    (mid : List Contents) × AreLost (lost_of old (turn_of old + 1)) (caches_of old) mid
    × IsRefused (named_of old (turn_of old + 1)) stamp (moment_now old) mid server ask (caches_of new)
Stops Spent stamp old server ask new = caches_of new ≡ caches_of old
