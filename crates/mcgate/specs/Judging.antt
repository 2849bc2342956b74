-- What may be served of a text, and what is printed in its place. Source: mcgate's own.
use Rattle.std.specs.Prelude.{◌≡◌, ℕ, ◌⊎◌, Bool, true, false, List, [], ◌∷◌, Option, Result, Ok, Err}
use Rattle.serde_json.specs.Read.{read}
use Rattle.route_json.specs.Configs.{read_or}
use Rattle.route_json.specs.Configuration.{Configuration}
use Rattle.gate_check.specs.Gate.{IsCertified}
use Rattle.mcgate_check.specs.Checking.{PrintsRefused}
use Rattle.mcgate_lines.specs.Faults.{PrintsFault}
use Rattle.mcgate_ends.specs.declared.ends.Stop.{Stop}
use Rattle.mcgate_ends.specs.Ends.{StopBreaksOff}
use Rattle.mcgate.specs.declared.serve.Servable.{Servable}
use Rattle.mcgate.specs.declared.serve.Servable.TheVariants as servables
use Rattle.mcgate.specs.declared.serve.Judged.{Judged}
use Rattle.mcgate.specs.declared.serve.Judged.TheVariants as judgements

-- this configuration may be served: some certificate is valid for its tree, or `any` says that no gate is asked
abbrev pub MayBeServed : Bool → Configuration → Servable → Type 0
MayBeServed any configuration (servables.Accepted accepted) = (any ≡ false) × (accepted ≡ configuration ∷ []) × IsCertified configuration.tree
MayBeServed any configuration (servables.Unchecked unchecked) = (any ≡ true) × (unchecked ≡ configuration)

-- this configuration may be served, and nothing was written; or it was written why it is refused; or memory or the writer failed
abbrev pub JudgesToServe : Bool → Configuration → Option (List ℕ) → Option (List ℕ) → Result Judged Stop → Type 0
JudgesToServe any configuration old new (Ok (judgements.Servable servable)) = MayBeServed any configuration servable × (new ≡ old)
JudgesToServe any configuration old new (Ok (judgements.Printed status)) = (any ≡ false) × (status ≡ 1) × PrintsRefused configuration old new
JudgesToServe any configuration old new (Err stop) = StopBreaksOff stop

-- the text says none, and its first fault was written; or memory or the writer failed
abbrev pub TellsFirstFault : List ℕ → Option (List ℕ) → Option (List ℕ) → Result Judged Stop → Type 0
TellsFirstFault text old new (Ok (judgements.Servable servable)) = ⊥
TellsFirstFault text old new (Ok (judgements.Printed status)) = (status ≡ 2) × PrintsFault text old new
TellsFirstFault text old new (Err stop) = StopBreaksOff stop

-- the configuration that the text says is judged; or it says none
abbrev pub JudgesText : Bool → List ℕ → Option (List ℕ) → Option (List ℕ) → Result Judged Stop → Type 0
JudgesText any text old new result =
    ((configuration : Configuration) × (read_or (read text) ≡ Ok (configuration.tree, configuration.servers)) × JudgesToServe any configuration old new result) ⊎ TellsFirstFault text old new result
