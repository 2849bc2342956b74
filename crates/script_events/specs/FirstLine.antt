-- What the first line of a script says: a pool, or a configuration. Source: mcgate's own.
use Rattle.std.specs.Prelude.{◌≡◌, ℕ, nat_eq, List, codes, Bool, if◌then◌else◌, Option, Some, None, Result, Ok, Err}
use Rattle.std.specs.List.{starts_with}
use Rattle.std.specs.Str.{bytes_eq}
use Rattle.text_words.specs.Number.{number_below}
use Rattle.serde_json.specs.Read.{read}
use Rattle.route_tree.specs.Route.{Route}
use Rattle.route_json.specs.declared.fault.ConfigFault.{ConfigFault}
use Rattle.route_json.specs.Fault.{Fault, fault_of}
use Rattle.route_json.specs.Servers.{Addresses}
use Rattle.route_json.specs.Configs.{read_or}
use Rattle.route_json.specs.Configuration.{Configuration}
use Rattle.route_json.specs.PoolConfiguration.{pool_configuration}
use Rattle.script_events.specs.Lines.{cut}
use Rattle.script_events.specs.Events.{nonzero, ◌>>=◌}
use Rattle.script_events.specs.declared.text.configured.ScriptFault.{ScriptFault}
use Rattle.script_events.specs.declared.text.configured.ScriptFault.TheVariants as faults

-- why a first line says no configuration: it is a bad line, or the configuration has this fault
pub data WhyNot : Type 0 where
  BadFirstLine : WhyNot
  HasFault : Fault → WhyNot

-- a pool's size: 1..=1024
abbrev pub size_said : List ℕ → Option ℕ
size_said word = do
  n ← number_below 1025 word
  nonzero n

-- the size of the pool that a line says: `pool N`
abbrev pub pool_said : List ℕ → Option ℕ
pool_said line = do
  parts ← cut line
  if bytes_eq parts.word (codes "pool") then size_said parts.rest else None

-- a line that begins with `pool` is meant to say a pool, and every other line a configuration
abbrev pub begins_with_pool : List ℕ → Bool
begins_with_pool line = starts_with nat_eq line (codes "pool")

-- the configuration of a pool of this size
abbrev pub pool_or_bad : Option ℕ → Result Configuration WhyNot
pool_or_bad None = Err BadFirstLine
pool_or_bad (Some size) = Ok (pool_configuration size)

-- the configuration that was read, or its fault
abbrev pub read_or_fault : Result (Route × Addresses) Fault → Result Configuration WhyNot
read_or_fault (Ok c) = Ok (record { tree = c.0; servers = c.1 })
read_or_fault (Err fault) = Err (HasFault fault)

-- the configuration that a first line says, or why not
abbrev pub first_said : List ℕ → Result Configuration WhyNot
first_said line = if begins_with_pool line then pool_or_bad (pool_said line) else read_or_fault (read_or (read line))

-- the fault that is told is the configuration's, and not running out of memory
pub record TellsFault {A : Type 0} (said : Result A WhyNot) (told : ConfigFault) : Type 0 where
  pub fault : Fault
  pub known : fault_of told ≡ Some fault
  pub found : said ≡ Err (HasFault fault)

-- what is answered of a first line, by what it says
abbrev pub ReadsFirst : Result Configuration WhyNot → Result Configuration ScriptFault → Type 0
ReadsFirst said (Ok config) = said ≡ Ok config
ReadsFirst said (Err (faults.Config fault)) = TellsFault said fault
ReadsFirst said (Err (faults.BadLine n)) = (said ≡ Err BadFirstLine) × (n ≡ 1)
ReadsFirst said (Err faults.NoMemory) = Unit {0}
