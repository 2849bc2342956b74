-- What a child is to its route, in words. Source: mcgate's own.
use Rattle.std.specs.Prelude.{ℕ, List, ◌++◌, codes, decimal}
use Rattle.gate_gaps.specs.Names.{op_name}
use Rattle.gate_gaps.specs.Quoting.{quoted}
use Rattle.gate_picture.specs.declared.edges.Edge.{Edge}
use Rattle.gate_picture.specs.declared.edges.Edge.TheVariants as edges

abbrev pub edge_text : Edge → List ℕ
edge_text (edges.Child n) = codes "children[" ++ decimal n ++ codes "]"
edge_text edges.Cold = codes "cold"
edge_text edges.Warm = codes "warm"
edge_text (edges.Policy op) = op_name op
edge_text edges.Default = codes "default"
edge_text (edges.Prefix key) = codes "prefix " ++ quoted key.now
edge_text edges.Wildcard = codes "wildcard"
