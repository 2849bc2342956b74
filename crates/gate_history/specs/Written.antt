-- What is written of a generation, and that it is read back. Source: mcgate's own.
use Rattle.std.specs.Prelude.{◌≡◌, ℕ, ◌+◌, List, [], ◌∷◌, ◌++◌, length, Ok}
use Rattle.serde_json.specs.Read.{read}
use Rattle.route_json.specs.Configs.{read_after}
use Rattle.gate_growth.specs.declared.ledger.page.Beginning.{Beginning}
use Rattle.gate_history.specs.declared.generation.Generation.{Generation}
use Rattle.gate_history.specs.Spelled.{generation_line}
use Rattle.gate_history.specs.Lines.{Lacks}
use Rattle.gate_history.specs.Histories.{IsHistoryOf, servers_after}

-- these bytes are the ended line of a generation whose configuration is said by JSON of the same value as the text's
abbrev pub IsLineFor : ℕ → Beginning → List ℕ → List ℕ → Type 0
IsLineFor number began text bytes =
    (said : List ℕ) × (bytes ≡ generation_line number began said ++ 10 ∷ []) × Lacks 10 (generation_line number began said) × (read said ≡ read text)

-- a history with the line of one more generation at its end is the history of that generation too
abbrev pub WrittenIsRead : Type 0
WrittenIsRead =
    (gs : List Generation) (g : Generation) (history text bytes : List ℕ) → IsHistoryOf gs history → IsLineFor (length gs + 1) g.began text bytes
    → read_after (servers_after [] gs) (read text) ≡ Ok (g.config.tree, g.config.servers) → IsHistoryOf (gs ++ g ∷ []) (history ++ bytes)

-- a text is the history of one list of generations at most
abbrev pub HistoriesAreDetermined : Type 0
HistoriesAreDetermined = (gs hs : List Generation) (text : List ℕ) → IsHistoryOf gs text → IsHistoryOf hs text → gs ≡ hs
