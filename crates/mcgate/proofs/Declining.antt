-- What is told of a configuration that a certificate doesn't show fresh.
use Rattle.std.proofs.Common.{◌≡◌, ℕ, List, Option, Result, sym, subst}
use Rattle.route_json.specs.Configuration.{Configuration}
use Rattle.gate_certificate.specs.declared.testing.Unverified.{Unverified}
use Rattle.gate_certificate.specs.Testing.{IsUnverified}
use Rattle.mcgate_ends.specs.declared.ends.Stop.{Stop}
use Rattle.mcgate.specs.declared.serve.Judged.{Judged}
use Rattle.mcgate.specs.Certified.{JudgesBy}

-- what is told of an equal configuration that was given back is told of this one
pub given_back : (config given : Configuration) (certificate : List ℕ) (why : Unverified) (old new : Option (List ℕ)) (r : Result Judged Stop) → given ≡ config → IsUnverified config.tree certificate why
    → ((t : List ℕ) → IsUnverified given.tree t why → JudgesBy given t old new r) → JudgesBy config certificate old new r
given_back config given certificate why old new r same h f =
    subst (λ (c : Configuration). JudgesBy c certificate old new r) same (f certificate (subst (λ (c : Configuration). IsUnverified c.tree certificate why) (sym same) h))
