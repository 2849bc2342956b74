-- The life of a server, and what it holds. Source: mcgate's own; what each call leaves is memcached's protocol.txt.
use Rattle.std.specs.Prelude.{ℕ, List, [], ◌∷◌, Option, None, if◌then◌else◌, bytes_eq}
use Rattle.mc_types.specs.declared.ask.Ask.{Ask}
use Rattle.mc_types.specs.declared.answer.Answer.{Answer}
use Rattle.mc_types.specs.Items.{Item, after_call}

-- what happened to a server: an applied call with the stamp to give, the server's true answer, read by anybody or not, and the count of spaces put after a number; a lost key; a restart; or what there is of a key from then on: nothing where it was lost, an item where somebody else wrote it
pub data Mark : Type 0 where
  Applied : (ask : Ask) (stamp : ℕ) (answer : Answer) (spaces : ℕ) → Mark
  Lost : (key : List ℕ) → Mark
  Restarted : Mark
  Turned : (key : List ℕ) (item : Option Item) → Mark

-- what a life, the latest mark first, leaves of the key: where nothing happened, the opening item
abbrev pub held_in : Option Item → List Mark → List ℕ → Option Item
held_in opening [] key = opening
held_in opening (Applied ask stamp answer spaces ∷ life) key =
    if bytes_eq ask.key key then after_call ask stamp answer spaces (held_in opening life key) else held_in opening life key
held_in opening (Lost lost ∷ life) key = if bytes_eq lost key then None else held_in opening life key
held_in opening (Restarted ∷ life) key = None
held_in opening (Turned turned item ∷ life) key = if bytes_eq turned key then item else held_in opening life key
