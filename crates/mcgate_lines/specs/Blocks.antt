-- What is printed of keys: a block for each. Source: mcgate's own.
use Rattle.std.specs.Prelude.{◌≡◌, ℕ, List, [], ◌∷◌, ◌++◌, codes, decimal, flat_map, Option}
use Rattle.std.specs.Io.KnownBytes.{Appends}
use Rattle.text_words.specs.Escapes.{escaped}
use Rattle.route_tree.specs.Tag.{hash_part, key_hash}
use Rattle.mc_types.specs.declared.ask.Op.{Op}
use Rattle.mc_types.specs.Asks.{all_ops}
use Rattle.route_tree.specs.declared.place.Place.{Place}
use Rattle.route_tree.specs.At.{tree_at}
use Rattle.route_tree.specs.Place.{IsPlaceOf}
use Rattle.route_tree.specs.Plan.{Plan}
use Rattle.route_tree.specs.Route.{Route}
use Rattle.route_json.specs.Servers.{Addresses}
use Rattle.serde_json.specs.Data.{Data}
use Rattle.gate_gaps.specs.Names.{op_name}
use Rattle.gate_gaps.specs.Pools.{NamedPools}
use Rattle.gate_gaps.specs.PoolWords.{server_text}
use Rattle.mcgate_lines.specs.Verdict.{place_fields}
use Rattle.mcgate_lines.specs.Asking.{servers_asked}
use Rattle.mcgate_lines.specs.LimitLines.{limits_lines, plan_servers}

-- key=K hash_part=P hash=N
abbrev pub key_line : List ℕ → List ℕ
key_line key = codes "key=" ++ escaped key ++ codes " hash_part=" ++ escaped (hash_part key) ++ codes " hash=" ++ decimal (key_hash key)

-- a server, with its places in the lists of the pools
abbrev pub pool_places_text : Addresses → NamedPools → ℕ → List ℕ
pool_places_text addresses pools server = codes " " ++ server_text addresses pools server

abbrev pub servers_text : Addresses → NamedPools → List ℕ → List ℕ
servers_text addresses pools servers = flat_map (pool_places_text addresses pools) servers

abbrev pub op_front : Op → List ℕ
op_front op = codes "  " ++ op_name op

-- the operation and these servers
abbrev pub op_line : Addresses → NamedPools → Op → List ℕ → List ℕ
op_line addresses pools op servers = op_front op ++ servers_text addresses pools servers ++ codes "\n"

-- a line for each operation, with the servers that the plain tree has for it
abbrev pub op_lines : Addresses → NamedPools → Plan → List Op → List ℕ
op_lines addresses pools plain ops = flat_map (λ op. op_line addresses pools op (servers_asked op plain)) ops

-- the lines of a key with this plain tree: those of the operations, and of the limits that pools say for their servers
abbrev pub plain_lines : Addresses → NamedPools → Data → Plan → List ℕ
plain_lines addresses pools value plain = op_lines addresses pools plain all_ops ++ limits_lines addresses pools value (plan_servers plain all_ops)

-- the block of a key whose place is this, by a configuration of this value
abbrev pub block : Addresses → NamedPools → Data → Route → Place → List ℕ → List ℕ
block addresses pools value tree place key = key_line key ++ place_fields place ++ plain_lines addresses pools value (tree_at tree key)

-- the block of the key, with its place, was written
abbrev pub WritesBlock : Addresses → NamedPools → Data → Route → List ℕ → Option (List ℕ) → Option (List ℕ) → Type 0
WritesBlock addresses pools value tree key old new = (place : Place) × IsPlaceOf tree key place × Appends old new (block addresses pools value tree place key)

-- a block for each key, one after the other
abbrev pub WritesBlocks : Addresses → NamedPools → Data → Route → List (List ℕ) → Option (List ℕ) → Option (List ℕ) → Type 0
WritesBlocks addresses pools value tree [] old new = new ≡ old
WritesBlocks addresses pools value tree (key ∷ keys) old new = (between : Option (List ℕ)) × WritesBlock addresses pools value tree key old between × WritesBlocks addresses pools value tree keys between new
