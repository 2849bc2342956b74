-- What generations left where a tree is looked at. Source: mcgate's own.
use Rattle.std.specs.Prelude.{ℕ, List, map, Option, MatchOption}
use Rattle.route_tree.specs.At.{plain_for}
use Rattle.route_tree.specs.Plan.{Plan}
use Rattle.route_tree.specs.Route.{Route}
use Rattle.gate_growth.specs.Marks.{MayStandAfter, IsRefusedFor}
use Rattle.gate_growth.specs.Pages.{is_any}
use Rattle.gate_growth.specs.declared.ledger.page.Beginning.{Beginning}
use Rattle.gate_history.specs.declared.generation.Generation.{Generation}

-- what the trees of generations are for a hash and a text
abbrev pub plans_for : ℕ → List ℕ → List Generation → List Plan
plans_for hash text gs = map (λ (g : Generation). plain_for hash text g.config.tree) gs

-- there the tree may follow them as to this server, which began so; or it takes what this generation, counted from 0, is the first to leave
abbrev pub IsFirstLeftAt : ℕ → List ℕ → List Generation → Route → Beginning → ℕ → Option ℕ → Type 0
IsFirstLeftAt hash text gs tree began server found =
    MatchOption found (MayStandAfter (is_any began) (plans_for hash text gs) (plain_for hash text tree) server) (IsRefusedFor (is_any began) (plans_for hash text gs) (plain_for hash text tree) server)
