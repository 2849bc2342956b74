-- Verdicts on texts.
use Rattle.std.proofs.Common.{◌≡◌, ℕ, List, Result, Ok, Err, sym, subst}
use Rattle.std.specs.Prelude.{IfOk}
use Rattle.route_json.specs.Configuration.{Configuration}
use Rattle.gate_certificate.specs.declared.testing.Unverified.{Unverified}
use Rattle.gate_certificate.specs.declared.verdict.Verdict.{Verdict}
use Rattle.gate_certificate.specs.declared.verdict.Verdict.TheVariants as verdicts
use Rattle.gate_certificate.specs.Testing.{IsUnverified}
use Rattle.gate_certificate.specs.Verdict.{IsVerdict, IsVerdictOn, Means}

-- of a configuration that was given back
pub given_back : {E : Type 0} (config given : Configuration) (text : List ℕ) (why : Unverified) (r : Result Verdict E) → given ≡ config → IsUnverified config.tree text why → ((t : List ℕ) → IsUnverified given.tree t why → IfOk r (IsVerdictOn given t)) → IfOk r (IsVerdictOn config text)
given_back config given text why r same h f =
    subst (λ (c : Configuration). IfOk r (IsVerdictOn c text)) same (f text (subst (λ (c : Configuration). IsUnverified c.tree text why) (sym same) h))

verdict_is : (text certificate : List ℕ) (config : Configuration) (v : Verdict) → Means text config → IsVerdictOn config certificate v → IsVerdict text certificate v
verdict_is text certificate config (verdicts.Verified places) m h = (config, m, h)
verdict_is text certificate config (verdicts.Refused given reason) m h = (config, m, h)
verdict_is text certificate config (verdicts.NoCertificate fault) m h = h
verdict_is text certificate config (verdicts.NoConfig fault) m h = absurd h

-- of the configuration that a text means
pub verdict_of_text : {E : Type 0} (text certificate : List ℕ) (config : Configuration) (r : Result Verdict E) → Means text config → IfOk r (IsVerdictOn config certificate) → IfOk r (IsVerdict text certificate)
verdict_of_text text certificate config (Ok v) m h = verdict_is text certificate config v m h
verdict_of_text text certificate config (Err e) m h = tt
