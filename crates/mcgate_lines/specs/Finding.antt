-- What is printed of a configuration's text and of keys. Source: mcgate's own.
use Rattle.std.specs.Prelude.{◌≡◌, ℕ, ◌⊎◌, List, [], ◌∷◌, Option, Ok}
use Rattle.std.specs.Io.KnownBytes.{Appends}
use Rattle.serde_json.specs.Read.{read}
use Rattle.route_json.specs.Configs.{read_or}
use Rattle.route_json.specs.Configuration.{Configuration}
use Rattle.gate_check.specs.Tables.{IsPlaceFault}
use Rattle.gate_check.specs.declared.places.table.PlaceFault.TheVariants.{TooManyPlaces}
use Rattle.gate_check.specs.declared.gap.Reason.TheVariants as reasons
use Rattle.gate_gaps.specs.Pools.{named_pools_in}
use Rattle.mcgate_lines.specs.Faults.{PrintsFault}
use Rattle.mcgate_lines.specs.Verdict.{judged_line}
use Rattle.mcgate_lines.specs.Blocks.{WritesBlocks}
use Rattle.mcgate_lines.specs.LimitLines.{limits_value}

-- status 0: a block for each key was written, with the pools that the text names and the limits that they say; status 1: the tree has too many places, and that was written
abbrev pub FindsAt : (text : List ℕ) → Configuration → List (List ℕ) → Option (List ℕ) → Option (List ℕ) → ℕ → Type 0
FindsAt text config keys old new status =
    ((status ≡ 0) × WritesBlocks config.servers (named_pools_in config.servers (read text)) (limits_value (read text)) config.tree keys old new)
    ⊎ ((status ≡ 1) × IsPlaceFault (config.tree ∷ []) TooManyPlaces × Appends old new (judged_line config.servers reasons.TooManyPlaces))

-- the text is a configuration, and the keys were looked up in its tree
pub record FindsIn (text : List ℕ) (keys : List (List ℕ)) (old new : Option (List ℕ)) (status : ℕ) : Type 0 where
  pub config : Configuration
  pub said : read_or (read text) ≡ Ok (config.tree, config.servers)
  pub finds : FindsAt text config keys old new status

-- status 2: the text is no configuration
abbrev pub FindsKeys : List ℕ → List (List ℕ) → Option (List ℕ) → Option (List ℕ) → ℕ → Type 0
FindsKeys text keys old new status = FindsIn text keys old new status ⊎ ((status ≡ 2) × PrintsFault text old new)
