-- What is printed of a configuration's text, in a form. Source: mcgate's own.
use Rattle.std.specs.Prelude.{◌≡◌, ℕ, ◌⊎◌, List, Option, Ok}
use Rattle.serde_json.specs.Read.{read}
use Rattle.route_json.specs.Configs.{read_or}
use Rattle.route_json.specs.Configuration.{Configuration}
use Rattle.gate_check.specs.declared.gap.Reason.{Reason}
use Rattle.mcgate_check.specs.Checking.{PrintsAccepted, ChecksRefused}
use Rattle.mcgate_lines.specs.Faults.{PrintsFault}
use Rattle.mcgate_check.specs.Explaining.{ExplainsAccepted, ExplainsRefused}
use Rattle.mcgate_check.specs.Drawing.{DrawsAccepted, DrawsRefused}
use Rattle.mcgate_lines.specs.declared.verdict.Form.{Form}
use Rattle.mcgate_lines.specs.declared.verdict.Form.TheVariants as forms

-- an accepted configuration in this form, which this text means
abbrev pub AcceptedIn : Form → (text : List ℕ) → Configuration → Option (List ℕ) → Option (List ℕ) → Type 0
AcceptedIn forms.Lines text config = PrintsAccepted config.tree
AcceptedIn forms.Explained text config = ExplainsAccepted config.tree
AcceptedIn forms.Picture text config = DrawsAccepted text config

-- one that is refused for this reason
abbrev pub RefusedIn : Form → (text : List ℕ) → Configuration → Reason → Option (List ℕ) → Option (List ℕ) → Type 0
RefusedIn forms.Lines text = ChecksRefused
RefusedIn forms.Explained text = ExplainsRefused text
RefusedIn forms.Picture text = DrawsRefused text

-- the verdict on a configuration was written; status 0: it is accepted; status 1: it is refused
abbrev pub ReportsConfig : Form → (text : List ℕ) → Configuration → Option (List ℕ) → Option (List ℕ) → ℕ → Type 0
ReportsConfig form text config old new status =
    ((status ≡ 0) × AcceptedIn form text config old new) ⊎ ((status ≡ 1) × (reason : Reason) × RefusedIn form text config reason old new)

-- the text is a configuration, and the verdict on it was written
pub record PrintsVerdict (form : Form) (text : List ℕ) (old new : Option (List ℕ)) (status : ℕ) : Type 0 where
  pub config : Configuration
  pub said : read_or (read text) ≡ Ok (config.tree, config.servers)
  pub reports : ReportsConfig form text config old new status

-- status 2: the text is no configuration
abbrev pub Checks : Form → List ℕ → Option (List ℕ) → Option (List ℕ) → ℕ → Type 0
Checks form text old new status = PrintsVerdict form text old new status ⊎ ((status ≡ 2) × PrintsFault text old new)
