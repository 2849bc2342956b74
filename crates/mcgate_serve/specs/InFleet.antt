-- What a proxy that is one of a fleet loads beside the configuration in use, by which others run too. Source: mcgate's own.
use Rattle.std.specs.Prelude.{◌≡◌, ℕ, ◌+◌, ◌<◌, Bool, true, List, Option, Some, None, length, slice_get}
use Rattle.route_json.specs.Configuration.{Configuration}
use Rattle.gate_history.specs.declared.generation.Generation.{Generation}
use Rattle.gate_history.specs.InFile.{InFile}
use Rattle.mcgate_ends.specs.FleetMembers.{StandBeside}
use Rattle.mcgate_notes.specs.declared.remembering.Kept.{Kept}
use Rattle.mcgate_serve.specs.declared.started.Begun.{Begun}
use Rattle.mcgate_serve.specs.declared.started.Begun.TheVariants as outcomes

-- in a fleet, where this configuration is in use, proxies may run by it and by the other one at the same time; one that is in no fleet knows none
abbrev pub StandsBeside : (in_use : Option Configuration) → Configuration → Type 0
StandsBeside None configuration = Unit {0}
StandsBeside (Some used) configuration = StandBeside used configuration

-- the configuration in use once this one was loaded
abbrev pub in_use_after : (in_use : Option Configuration) → Configuration → Option Configuration
in_use_after None configuration = None
in_use_after (Some used) configuration = Some configuration

-- the configuration of the last generation and that of the one before it stand beside each other
abbrev pub LastStandBeside : List Generation → Type 0
LastStandBeside generations =
    (i : ℕ) (before last : Generation) → i + 2 ≡ length generations → slice_get generations i ≡ Some before → slice_get generations (i + 1) ≡ Some last → StandBeside before.config last.config

-- the history in this file is remembered
abbrev pub Keeps : (file : InFile) → Begun → Type 0
Keeps file (outcomes.Started started) = (kept : Kept) × (started.memory ≡ Some kept) × (kept.file ≡ file)
Keeps file (outcomes.Printed status) = Unit {0}
