use Rattle.std.proofs.Common.{◌≡◌, ◌≢◌, List, ℕ, Option, Bor, MatchOption, subst}
use Rattle.gate_growth.specs.declared.ledger.page.Beginning.{Beginning}
use Rattle.gate_growth.specs.declared.ledger.page.Beginning.TheVariants.{Any, Own}
use Rattle.gate_history.specs.Spelled.{body_of}
use Rattle.gate_history.proofs.Fronts.{if_none}
use Rattle.gate_history.proofs.lines.said_in.Goals as goal

either : (body : List ℕ) (n : ℕ) → ((x : List ℕ) → body ≢ body_of n Any x) → ((x : List ℕ) → body ≢ body_of n Own x) → (b : Beginning) (x : List ℕ) → body ≢ body_of n b x
either body n any own Any x = any x
either body n any own Own x = own x

pub returns-in-None : goal.returns-in-None
returns-in-None c =
    either c.args.body.now c.args.generation (if_none c.in_ok-config.field-0 _ _ c.in_default.not-Some c.in_ok-config.ensures) (subst (λ (o : Option (Bor (List ℕ))). MatchOption o ((x : List ℕ) → c.args.body.now ≢ body_of c.args.generation Own x) (λ s. c.args.body.now ≡ body_of c.args.generation Own s.now)) c.in-None.is c.in_ok-config_in.ensures)
