-- What stands in the nodes of a picture. Source: mcgate's own, in Graphviz's language.
use Rattle.std.specs.Prelude.{ℕ, ◌+◌, ◌-◌, ◌==◌, Bool, List, [], ◌∷◌, ◌++◌, codes, decimal, length, flat_map, nat_le, if◌then◌else◌}
use Rattle.route_tree.specs.Route.{Route, Routes, Prefixes, Pool, Server, Null, Failing, AllSync, Failover, MissFailover, WarmUp, ByOperation, ByPrefix, End, More, Wildcard, Prefix}
use Rattle.route_json.specs.Servers.{Addresses}
use Rattle.gate_gaps.specs.Kinds.{kind_name}
use Rattle.gate_gaps.specs.Names.{server_address}
use Rattle.gate_gaps.specs.Pools.{NamedPool, NamedPools}
use Rattle.gate_gaps.specs.PoolWords.{places_text, pool_names}
use Rattle.gate_gaps.specs.Quoting.{quoted}
use Rattle.gate_gaps.specs.declared.spelling.Spelling.TheVariants as spellings
use Rattle.gate_picture.specs.declared.labels.TheConstants.{NAMED}

-- a line of its own for a server
abbrev pub address_line : Addresses → ℕ → List ℕ
address_line servers server = codes "\\n" ++ quoted (server_address servers server)

-- lines for the servers of the slots after this one, so many of them; two dots in place of more
abbrev pub later_slots : Addresses → (left before : ℕ) → List ℕ → List ℕ
later_slots servers left before [] = []
later_slots servers left before (s ∷ ss) =
    if s == before then later_slots servers left before ss
    else if left == 0 then codes "\\n.."
    else address_line servers s ++ later_slots servers (left - 1) s ss

-- a line for the server of each run of slots
abbrev pub slots_text : Addresses → List ℕ → List ℕ
slots_text servers [] = []
slots_text servers (s ∷ ss) = address_line servers s ++ later_slots servers (NAMED - 1) s ss

-- the names and the servers of a pool
abbrev pub pool_text : Addresses → NamedPools → List ℕ → List ℕ
pool_text servers pools slots = pool_names spellings.Label pools slots ++ slots_text servers slots

-- a server, with its places
abbrev pub alone_text : Addresses → NamedPools → ℕ → List ℕ
alone_text servers pools server = codes " " ++ quoted (server_address servers server) ++ places_text spellings.Label pools server

-- what a node says of a route beside its kind
abbrev pub detail_text : Addresses → NamedPools → Route → List ℕ
detail_text servers pools (Pool slots) = pool_text servers pools slots
detail_text servers pools (Server s) = alone_text servers pools s
detail_text servers pools Null = []
detail_text servers pools Failing = []
detail_text servers pools (AllSync rs) = []
detail_text servers pools (Failover rs) = []
detail_text servers pools (MissFailover rs) = []
detail_text servers pools (WarmUp cold warm e) = []
detail_text servers pools (ByOperation ps) = []
detail_text servers pools (ByPrefix ps) = []

-- the label of one route
abbrev pub one_text : Addresses → NamedPools → Route → List ℕ
one_text servers pools r = kind_name r ++ detail_text servers pools r

-- a line for a pool's route or a server of a run
abbrev pub leaf_line : Addresses → NamedPools → Route → List ℕ
leaf_line servers pools (Pool slots) = codes "\\n" ++ pool_names spellings.Label pools slots
leaf_line servers pools (Server s) = address_line servers s
leaf_line servers pools Null = []
leaf_line servers pools Failing = []
leaf_line servers pools (AllSync rs) = []
leaf_line servers pools (Failover rs) = []
leaf_line servers pools (MissFailover rs) = []
leaf_line servers pools (WarmUp cold warm e) = []
leaf_line servers pools (ByOperation ps) = []
leaf_line servers pools (ByPrefix ps) = []

-- two dots in place of further pools or servers
abbrev pub dots_text : Route → List ℕ
dots_text (Pool slots) = codes "\\n.."
dots_text (Server s) = codes "\\n.."
dots_text Null = []
dots_text Failing = []
dots_text (AllSync rs) = []
dots_text (Failover rs) = []
dots_text (MissFailover rs) = []
dots_text (WarmUp cold warm e) = []
dots_text (ByOperation ps) = []
dots_text (ByPrefix ps) = []

-- the line of the last route that is named, and two dots
abbrev pub last_leaf : Addresses → NamedPools → Route → List ℕ
last_leaf servers pools r = leaf_line servers pools r ++ dots_text r

-- how many routes a run has, and their kind
abbrev pub count_text : (more : ℕ) → Route → List ℕ
count_text more r = decimal (more + 1) ++ codes " x " ++ kind_name r

module _ (servers : Addresses) (pools : NamedPools) where
  -- lines for the first child of a run and for so many more of it, and no more than the limit; two dots in place of the others
  abbrev pub leaf_lines : (more limit : ℕ) → Routes → List ℕ
  leaf_lines more limit End = []
  leaf_lines more limit (More r rs) =
      if more == 0 then leaf_line servers pools r
      else if nat_le limit 1 then last_leaf servers pools r
      else leaf_line servers pools r ++ leaf_lines (more - 1) (limit - 1) rs

  -- lines for the first child by prefix of a run and for so many more of it, and no more than the limit; two dots in place of the others
  abbrev pub prefix_leaf_lines : (more limit : ℕ) → Prefixes → List ℕ
  prefix_leaf_lines more limit (Wildcard r) = []
  prefix_leaf_lines more limit (Prefix p r ps) =
      if more == 0 then leaf_line servers pools r
      else if nat_le limit 1 then last_leaf servers pools r
      else leaf_line servers pools r ++ prefix_leaf_lines (more - 1) (limit - 1) ps

  -- the label of a run: of one child, or of the first of these children and so many more
  abbrev pub run_text : (more : ℕ) → Route → Routes → List ℕ
  run_text more r rs = if more == 0 then one_text servers pools r else count_text more r ++ leaf_lines more NAMED rs

  -- the label of a run of children by prefix: of one child, or of the first of these children and so many more
  abbrev pub prefix_run_text : (more : ℕ) → Route → Prefixes → List ℕ
  prefix_run_text more r ps = if more == 0 then one_text servers pools r else count_text more r ++ prefix_leaf_lines more NAMED ps
