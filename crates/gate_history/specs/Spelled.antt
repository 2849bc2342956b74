-- How a generation is spelled as a line of a history. Source: mcgate's own.
use Rattle.std.specs.Prelude.{ℕ, List, ◌∷◌, ◌++◌, codes, decimal}
use Rattle.route_tree.specs.Fnv.{fnv1a}
use Rattle.gate_growth.specs.declared.ledger.page.Beginning.{Beginning}
use Rattle.gate_growth.specs.declared.ledger.page.Beginning.TheVariants.{Any, Own}

-- the word of a beginning
abbrev pub word_of : Beginning → List ℕ
word_of Any = codes "any"
word_of Own = codes "own"

-- what stands before the configuration in the part of a line that its sum is of
abbrev pub head_of : ℕ → Beginning → List ℕ
head_of generation began = codes "\"generation\":" ++ decimal generation ++ codes ",\"new_servers\":\"" ++ word_of began ++ codes "\",\"config\":"

-- the part that its sum is of: it ends with the brace that ends the line's object
abbrev pub body_of : ℕ → Beginning → List ℕ → List ℕ
body_of generation began said = head_of generation began ++ (said ++ codes "}")

-- what stands before the comma and that part: its sum
abbrev pub before_comma : List ℕ → List ℕ
before_comma body = codes "{\"sum\":" ++ decimal (fnv1a body)

-- a part of a line with its sum before it
abbrev pub summed : List ℕ → List ℕ
summed body = before_comma body ++ 44 ∷ body

-- the line of a generation whose configuration is said so: a JSON object of its sum, its number, how new servers began, and the configuration
abbrev pub generation_line : ℕ → Beginning → List ℕ → List ℕ
generation_line generation began said = summed (body_of generation began said)
