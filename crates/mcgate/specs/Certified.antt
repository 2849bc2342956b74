-- What may be served of a text by the text of a certificate, and what is printed in its place. Source: mcgate's own.
use Rattle.std.specs.Prelude.{◌≡◌, ℕ, ◌⊎◌, List, [], ◌∷◌, Option, None, Result, Ok, Err}
use Rattle.std.specs.Io.KnownBytes.{Appends}
use Rattle.serde_json.specs.Read.{read}
use Rattle.route_json.specs.Configs.{read_or}
use Rattle.route_json.specs.Configuration.{Configuration}
use Rattle.gate_check.specs.declared.gap.Reason.{Reason}
use Rattle.gate_certificate.specs.declared.testing.Unverified.TheVariants as ends
use Rattle.gate_certificate.specs.Format.{rows_of_text}
use Rattle.gate_certificate.specs.Testing.{IsCertifiedByText, IsUnverified}
use Rattle.mcgate_lines.specs.Verdict.{judged_line}
use Rattle.mcgate_ends.specs.declared.ends.Stop.{Stop}
use Rattle.mcgate_ends.specs.Ends.{StopBreaksOff}
use Rattle.mcgate.specs.declared.serve.Servable.TheVariants as servables
use Rattle.mcgate.specs.declared.serve.Judged.{Judged}
use Rattle.mcgate.specs.declared.serve.Judged.TheVariants as judgements
use Rattle.mcgate.specs.Judging.{TellsFirstFault}

-- status 1: the tree is refused by the certificate for this reason, and that was written; status 2: the text means no certificate
abbrev pub TellsWhy : Configuration → List ℕ → Option (List ℕ) → Option (List ℕ) → ℕ → Type 0
TellsWhy configuration certificate old new status =
    ((status ≡ 1) × (reason : Reason) × IsUnverified configuration.tree certificate (ends.Refused reason) × Appends old new (judged_line configuration.servers reason))
    ⊎ ((status ≡ 2) × (rows_of_text certificate ≡ None))

-- the configuration may be served, and nothing was written: the text means a certificate that is valid for its tree; or it was told why it isn't
abbrev pub JudgesBy : Configuration → List ℕ → Option (List ℕ) → Option (List ℕ) → Result Judged Stop → Type 0
JudgesBy configuration certificate old new (Ok (judgements.Servable (servables.Accepted accepted))) =
    (accepted ≡ configuration ∷ []) × IsCertifiedByText configuration.tree certificate × (new ≡ old)
JudgesBy configuration certificate old new (Ok (judgements.Servable (servables.Unchecked unchecked))) = ⊥
JudgesBy configuration certificate old new (Ok (judgements.Printed status)) = TellsWhy configuration certificate old new status
JudgesBy configuration certificate old new (Err stop) = StopBreaksOff stop

-- the configuration that the text says is judged so; or it says none
abbrev pub JudgesTextBy : List ℕ → List ℕ → Option (List ℕ) → Option (List ℕ) → Result Judged Stop → Type 0
JudgesTextBy text certificate old new result =
    ((configuration : Configuration) × (read_or (read text) ≡ Ok (configuration.tree, configuration.servers)) × JudgesBy configuration certificate old new result)
    ⊎ TellsFirstFault text old new result
