-- Trees tested by the text of a certificate. Source: mcgate's own.
use Rattle.std.specs.Prelude.{◌≡◌, ℕ, List, Some}
use Rattle.route_tree.specs.Route.{Route}
use Rattle.gate_check.specs.declared.places.table.Certificate.{Certificate}
use Rattle.gate_check.specs.Gate.{HasCertificate, IsReason}
use Rattle.gate_certificate.specs.declared.testing.Unverified.{Unverified}
use Rattle.gate_certificate.specs.declared.testing.Unverified.TheVariants as ends
use Rattle.gate_certificate.specs.Format.{IsNothing, rows_of, rows_of_text}

-- the text means a certificate that is valid for the tree
pub record IsCertifiedByText (tree : Route) (text : List ℕ) : Type 0 where
  pub certificate : Certificate
  pub means : rows_of_text text ≡ Some (rows_of certificate)
  pub valid : HasCertificate tree certificate

-- the text means no certificate, or one by which the tree is refused for this reason
abbrev pub IsUnverified : Route → List ℕ → Unverified → Type 0
IsUnverified tree text (ends.Text fault) = IsNothing fault (rows_of_text text)
IsUnverified tree text (ends.Refused reason) =
    (certificate : Certificate) × (rows_of_text text ≡ Some (rows_of certificate)) × IsReason tree certificate reason
