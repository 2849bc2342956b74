-- What is written of a configuration for which a certificate is asked. Source: mcgate's own.
use Rattle.std.specs.Prelude.{◌≡◌, ℕ, ◌⊎◌, List, ◌++◌, codes, Option, Ok}
use Rattle.std.specs.Io.KnownBytes.{Appends}
use Rattle.serde_json.specs.Read.{read}
use Rattle.route_tree.specs.Route.{Route}
use Rattle.route_json.specs.Configs.{read_or}
use Rattle.route_json.specs.Configuration.{Configuration}
use Rattle.gate_certificate.specs.Testing.{IsCertifiedByText}
use Rattle.mcgate_check.specs.Checking.{PrintsRefused}
use Rattle.mcgate_lines.specs.Faults.{PrintsFault}

-- the text of a certificate that is valid for the tree was written, and a line's end
pub record WritesCertificate (tree : Route) (old new : Option (List ℕ)) : Type 0 where
  pub text : List ℕ
  pub certified : IsCertifiedByText tree text
  pub written : Appends old new (text ++ codes "\n")

-- status 0: a certificate was written; status 1: it was written why there is none
abbrev pub CertifiesConfig : Configuration → Option (List ℕ) → Option (List ℕ) → ℕ → Type 0
CertifiesConfig config old new status = ((status ≡ 0) × WritesCertificate config.tree old new) ⊎ ((status ≡ 1) × PrintsRefused config old new)

-- the text is a configuration, and so much was written of it
pub record CertifiesIn (text : List ℕ) (old new : Option (List ℕ)) (status : ℕ) : Type 0 where
  pub config : Configuration
  pub said : read_or (read text) ≡ Ok (config.tree, config.servers)
  pub certifies : CertifiesConfig config old new status

-- status 2: the text is no configuration
abbrev pub Certifies : List ℕ → Option (List ℕ) → Option (List ℕ) → ℕ → Type 0
Certifies text old new status = CertifiesIn text old new status ⊎ ((status ≡ 2) × PrintsFault text old new)
