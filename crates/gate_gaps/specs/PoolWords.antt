-- Where a server stands in the lists of pools, and which pools have these slots, in words. Source: mcgate's own.
use Rattle.std.specs.Prelude.{ℕ, ◌+◌, ◌==◌, ◌&&◌, Bool, true, false, List, [], ◌∷◌, ◌++◌, codes, decimal, length, flat_map, if◌then◌else◌}
use Rattle.text_words.specs.Escapes.{escaped}
use Rattle.route_json.specs.NumberedServers.{Addresses}
use Rattle.gate_gaps.specs.Names.{server_address}
use Rattle.gate_gaps.specs.Pools.{NamedPool, NamedPools}
use Rattle.gate_gaps.specs.Spellings.{spelled}
use Rattle.gate_gaps.specs.declared.spelling.Spelling.{Spelling}
use Rattle.gate_gaps.specs.declared.spelling.Spelling.TheVariants.{Line}

abbrev pub same_slots : List ℕ → List ℕ → Bool
same_slots [] [] = true
same_slots [] (t ∷ ts) = false
same_slots (s ∷ ss) [] = false
same_slots (s ∷ ss) (t ∷ ts) = (s == t) && same_slots ss ts

abbrev pub place_text : Spelling → (name : List ℕ) → (place total : ℕ) → List ℕ
place_text spelling name place total = codes " (pool " ++ spelled spelling name ++ codes ", place " ++ decimal place ++ codes " of " ++ decimal total ++ codes ")"

-- the place, if the server stands there
abbrev pub place_if : Spelling → Bool → (name : List ℕ) → (place total : ℕ) → List ℕ
place_if spelling stands name place total = if stands then place_text spelling name place total else []

-- the places of a server in the rest of a list, whose first one is this place
abbrev pub places_from : Spelling → (name : List ℕ) → (place total : ℕ) → List ℕ → ℕ → List ℕ
places_from spelling name place total [] server = []
places_from spelling name place total (s ∷ ss) server = place_if spelling (s == server) name place total ++ places_from spelling name (place + 1) total ss server

-- the places of a server in the list of a pool
abbrev pub places_in : Spelling → ℕ → NamedPool → List ℕ
places_in spelling server pool = places_from spelling pool.0 1 (length pool.1) pool.1 server

-- the places of a server in the lists of all pools
abbrev pub places_text : Spelling → NamedPools → ℕ → List ℕ
places_text spelling pools server = flat_map (places_in spelling server) pools

-- a server by its address and its places
abbrev pub server_text : Addresses → NamedPools → ℕ → List ℕ
server_text servers pools server = escaped (server_address servers server) ++ places_text Line pools server

-- the name of a pool, if it has these slots
abbrev pub name_if : Spelling → List ℕ → NamedPool → List ℕ
name_if spelling slots pool = if same_slots pool.2 slots then codes " " ++ spelled spelling pool.0 else []

-- the names of the pools that have these slots
abbrev pub pool_names : Spelling → NamedPools → List ℕ → List ℕ
pool_names spelling pools slots = flat_map (name_if spelling slots) pools
