-- What a text of generations says, and what is known of them. Source: mcgate's own.
use Rattle.std.specs.Prelude.{◌≡◌, ℕ, suc, Bool, List, [], ◌∷◌, length, map, max, Ok}
use Rattle.serde_json.specs.Read.{read}
use Rattle.route_tree.specs.Route.{Route}
use Rattle.route_json.specs.Servers.{Addresses}
use Rattle.route_json.specs.Configs.{read_after}
use Rattle.gate_growth.specs.Pages.{AreOpened}
use Rattle.gate_growth.specs.Ledgers.{count_of_known, IsLedgerOf}
use Rattle.gate_growth.specs.declared.ledger.book.Ledger.{Ledger}
use Rattle.gate_history.specs.declared.generation.Generation.{Generation}
use Rattle.gate_history.specs.Spelled.{generation_line}
use Rattle.gate_history.specs.Lines.{IsCutAt}

-- their trees, the oldest first
abbrev pub generation_trees : List Generation → List Route
generation_trees gs = map (λ (g : Generation). g.config.tree) gs

-- how many servers are known after them, where so many were before
abbrev pub count_after : ℕ → List Generation → ℕ
count_after n [] = n
count_after n (g ∷ gs) = count_after (max n (length g.config.servers)) gs

-- the servers after them, where these were before
abbrev pub servers_after : Addresses → List Generation → Addresses
servers_after servers [] = servers
servers_after servers (g ∷ gs) = servers_after g.config.servers gs

-- the new servers of each began as it says, where so many were known before
abbrev pub AreOpenedBy : (ℕ → Bool) → ℕ → List Generation → Type 0
AreOpenedBy arbitrary n [] = Unit {0}
AreOpenedBy arbitrary n (g ∷ gs) = AreOpened arbitrary n (length g.config.servers) g.began × AreOpenedBy arbitrary (max n (length g.config.servers)) gs

-- the ledger is the one of these generations, whichever servers are arbitrary, if they began so
pub record Knows (gs : List Generation) (ledger : Ledger) : Type 0 where
  pub count : count_of_known ledger ≡ count_after 0 gs
  pub ledger_is : (arbitrary : ℕ → Bool) → AreOpenedBy arbitrary 0 gs → IsLedgerOf arbitrary (generation_trees gs) ledger

-- the line says this generation, of this number, after these servers
abbrev pub Says : ℕ → Addresses → Generation → List ℕ → Type 0
Says number servers g line = (said : List ℕ) × (line ≡ generation_line number g.began said) × (read_after servers (read said) ≡ Ok (g.config.tree, g.config.servers))

-- the text is the lines of these generations, each ended, numbered from this one on, after these servers
abbrev pub SayAll : ℕ → Addresses → List Generation → List ℕ → Type 0
SayAll number servers [] text = text ≡ []
SayAll number servers (g ∷ gs) text =
    (line rest : List ℕ) × IsCutAt 10 text line rest × Says number servers g line × SayAll (suc number) g.config.servers gs rest

-- the text is the history of these generations
abbrev pub IsHistoryOf : List Generation → List ℕ → Type 0
IsHistoryOf gs text = SayAll 1 [] gs text
