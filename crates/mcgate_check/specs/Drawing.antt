-- What is printed of a configuration where it is drawn. Source: mcgate's own.
use Rattle.std.specs.Prelude.{◌≡◌, ℕ, List, Option}
use Rattle.std.specs.Io.KnownBytes.{Appends}
use Rattle.serde_json.specs.Read.{read}
use Rattle.route_tree.specs.Place.{tree_at_place}
use Rattle.route_json.specs.Configuration.{Configuration}
use Rattle.gate_check.specs.declared.gap.Reason.{Reason}
use Rattle.gate_check.specs.declared.gap.Reason.TheVariants as reasons
use Rattle.gate_check.specs.Gate.{IsCertified, IsJudged}
use Rattle.gate_gaps.specs.declared.explanation.Explanation.{Explanation}
use Rattle.gate_gaps.specs.Explanations as gaps
use Rattle.gate_gaps.specs.Pools.{NamedPools, named_pools_in}
use Rattle.gate_picture.specs.Picture.{picture, gap_picture}
use Rattle.mcgate_check.specs.Checking.{ReasonHasLine}
use Rattle.mcgate_lines.specs.Verdict.{judged_line}

-- these lines are drawn: of a gap the tree with the way of an explanation; another reason has its line
abbrev pub IsDrawn : Configuration → NamedPools → Reason → List ℕ → Type 0
IsDrawn config pools (reasons.Uncovered gap) lines =
    (e : Explanation) × gaps.Explains (tree_at_place config.tree gap.place) gap.op gap.server gap.deleting e
    × (lines ≡ gap_picture config pools gap e.way.items)
IsDrawn config pools reasons.TooManyPlaces lines = lines ≡ judged_line config.servers reasons.TooManyPlaces
IsDrawn config pools (reasons.BadCertificate row) lines = lines ≡ judged_line config.servers (reasons.BadCertificate row)
IsDrawn config pools reasons.NoMemory lines = ⊥

-- the tree is refused for this reason, and that was drawn, with the pools that its text names
pub record DrawsRefused (text : List ℕ) (config : Configuration) (reason : Reason) (old new : Option (List ℕ)) : Type 0 where
  pub told : ReasonHasLine reason
  pub judged : IsJudged config.tree reason
  pub lines : List ℕ
  pub drawn : IsDrawn config (named_pools_in config.servers (read text)) reason lines
  pub printed : Appends old new lines

-- some certificate is valid for the tree, and the tree was drawn
pub record DrawsAccepted (text : List ℕ) (config : Configuration) (old new : Option (List ℕ)) : Type 0 where
  pub certified : IsCertified config.tree
  pub printed : Appends old new (picture config (named_pools_in config.servers (read text)))
