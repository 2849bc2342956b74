-- The fixed texts of a picture. Source: mcgate's own, in Graphviz's language.
use Rattle.std.specs.Prelude.{ℕ, List, codes}
use Rattle.gate_picture.specs.declared.phrases.Phrase.{Phrase}
use Rattle.gate_picture.specs.declared.phrases.Phrase.TheVariants as phrases

unfoldable pub picture_text : Phrase → List ℕ
picture_text phrases.Graph = codes "strict digraph mcgate {"
picture_text phrases.Direction = codes "  rankdir=LR;"
picture_text phrases.Label = codes " [label=\""
picture_text phrases.End = codes "\"];"
picture_text phrases.Boxed = codes "\", shape=box];"
picture_text phrases.Red = codes " [color=red];"
picture_text phrases.LabelRed = codes "\", color=red];"
picture_text phrases.LabelThick = codes "\", shape=box, color=red, penwidth=2];"
picture_text phrases.NotCleared = codes "\\nnot cleared by "
