-- Whole pictures. Source: mcgate's own, in Graphviz's language.
use Rattle.std.specs.Prelude.{ℕ, List, ◌++◌, codes}
use Rattle.route_json.specs.Configuration.{Configuration}
use Rattle.gate_check.specs.declared.gap.Gap.{Gap}
use Rattle.gate_gaps.specs.Pools.{NamedPools}
use Rattle.gate_gaps.specs.declared.ways.WayStep.{WayStep}
use Rattle.gate_picture.specs.Lines.{tree_lines}
use Rattle.gate_picture.specs.Marks.{way_lines}
use Rattle.gate_picture.specs.Statements.{graph_lines, left_server_line}

-- the front and the tree
unfoldable pub config_lines : Configuration → NamedPools → List ℕ
config_lines config pools = graph_lines ++ tree_lines config.servers pools config.tree

-- a tree without marks
abbrev pub picture : Configuration → NamedPools → List ℕ
picture config pools = config_lines config pools ++ codes "}\n"

-- the way of the read is marked, and the server that the delete leaves is drawn
unfoldable pub gap_lines : Configuration → NamedPools → Gap → List WayStep → List ℕ
gap_lines config pools gap way = way_lines gap config.tree way ++ left_server_line config.servers pools gap.server gap.deleting

-- a tree with a gap
abbrev pub gap_picture : Configuration → NamedPools → Gap → List WayStep → List ℕ
gap_picture config pools gap way = config_lines config pools ++ gap_lines config pools gap way ++ codes "}\n"
