-- The statements of a picture. Source: mcgate's own, in Graphviz's language.
use Rattle.std.specs.Prelude.{ℕ, ◌==◌, List, [], ◌++◌, codes, decimal, if◌then◌else◌}
use Rattle.mc_types.specs.declared.ask.Op.{Op}
use Rattle.gate_coverage.specs.declared.deleting.Deleting.{Deleting}
use Rattle.route_tree.specs.Route.{Route, Routes, Prefixes, Pool, Server, Null, Failing, AllSync, Failover, MissFailover, WarmUp, ByOperation, ByPrefix}
use Rattle.route_json.specs.Servers.{Addresses}
use Rattle.gate_gaps.specs.Names.{op_name, delete_name, server_address}
use Rattle.gate_gaps.specs.Pools.{NamedPools}
use Rattle.gate_gaps.specs.PoolWords.{places_text}
use Rattle.gate_gaps.specs.declared.spelling.Spelling.TheVariants as spellings
use Rattle.gate_picture.specs.Labels.{one_text, run_text, prefix_run_text}
use Rattle.gate_picture.specs.Phrases.{picture_text}
use Rattle.gate_gaps.specs.Quoting.{quoted}
use Rattle.gate_picture.specs.declared.phrases.Phrase.{Phrase}
use Rattle.gate_picture.specs.declared.phrases.Phrase.TheVariants as phrases

-- the front of the graph
unfoldable pub graph_lines : List ℕ
graph_lines = picture_text phrases.Graph ++ codes "\n" ++ picture_text phrases.Direction ++ codes "\n"

-- how many more children an edge leads to
abbrev pub more_text : ℕ → List ℕ
more_text more = if more == 0 then [] else codes " and " ++ decimal more ++ codes " more"

unfoldable pub edge_front : ℕ → (label : List ℕ) → ℕ → List ℕ
edge_front parent label n = codes "  r" ++ decimal parent ++ codes " -> r" ++ decimal n ++ picture_text phrases.Label ++ label

-- the edge from a route to one of its children, and to so many more
unfoldable pub edge_line : ℕ → (label : List ℕ) → (more : ℕ) → ℕ → List ℕ
edge_line parent label more n = edge_front parent label n ++ more_text more ++ picture_text phrases.End ++ codes "\n"

unfoldable pub node_front : ℕ → List ℕ
node_front n = codes "  r" ++ decimal n ++ picture_text phrases.Label

-- pools and servers are boxes
abbrev pub end_phrase : Route → Phrase
end_phrase (Pool slots) = phrases.Boxed
end_phrase (Server s) = phrases.Boxed
end_phrase Null = phrases.End
end_phrase Failing = phrases.End
end_phrase (AllSync rs) = phrases.End
end_phrase (Failover rs) = phrases.End
end_phrase (MissFailover rs) = phrases.End
end_phrase (WarmUp cold warm e) = phrases.End
end_phrase (ByOperation ps) = phrases.End
end_phrase (ByPrefix ps) = phrases.End

unfoldable pub node_end : Route → List ℕ
node_end r = picture_text (end_phrase r) ++ codes "\n"

-- the node of one route
abbrev pub node_line : Addresses → NamedPools → ℕ → Route → List ℕ
node_line servers pools n r = node_front n ++ one_text servers pools r ++ node_end r

-- the node of the first of these children, and of so many more
abbrev pub run_line : Addresses → NamedPools → ℕ → (more : ℕ) → Route → Routes → List ℕ
run_line servers pools n more r rs = node_front n ++ run_text servers pools more r rs ++ node_end r

-- the node of the first of these children by prefix, and of so many more
abbrev pub prefix_run_line : Addresses → NamedPools → ℕ → (more : ℕ) → Route → Prefixes → List ℕ
prefix_run_line servers pools n more r ps = node_front n ++ prefix_run_text servers pools more r ps ++ node_end r

-- the node of a route is marked
unfoldable pub red_node_line : ℕ → List ℕ
red_node_line n = codes "  r" ++ decimal n ++ picture_text phrases.Red ++ codes "\n"

-- the edge from a route to one of its children is marked
unfoldable pub red_edge_line : ℕ → (label : List ℕ) → ℕ → List ℕ
red_edge_line parent label n = edge_front parent label n ++ picture_text phrases.LabelRed ++ codes "\n"

-- this edge and the node that stands for the child are marked
unfoldable pub step_lines : ℕ → (label : List ℕ) → ℕ → List ℕ
step_lines parent label n = red_edge_line parent label n ++ red_node_line n

-- the edge by which the operation reaches the server
unfoldable pub read_line : ℕ → ℕ → Op → List ℕ
read_line n server op = codes "  r" ++ decimal n ++ codes " -> s" ++ decimal server ++ picture_text phrases.Label ++ op_name op ++ picture_text phrases.LabelRed ++ codes "\n"

unfoldable pub left_front : ℕ → (address : List ℕ) → List ℕ
left_front server address = codes "  s" ++ decimal server ++ picture_text phrases.Label ++ quoted address

unfoldable pub left_end : Deleting → List ℕ
left_end kind = picture_text phrases.NotCleared ++ delete_name kind ++ picture_text phrases.LabelThick ++ codes "\n"

-- the server that the delete leaves
abbrev pub left_server_line : Addresses → NamedPools → ℕ → Deleting → List ℕ
left_server_line servers pools server kind = left_front server (server_address servers server) ++ places_text spellings.Label pools server ++ left_end kind
