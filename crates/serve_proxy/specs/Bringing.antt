-- The servers to which links are brought, and why a configuration isn't loaded with its servers. Source: mcgate's own.
use Rattle.std.specs.Prelude.{◌≡◌, ◌⊎◌, ℕ, List, ◌++◌, Some, slice_get}
use Rattle.gate_check.specs.declared.reloading.ReloadFault.TheVariants as gate
use Rattle.route_json.specs.Configuration.{Configuration}
use Rattle.core_accepted.specs.declared.loading.LoadFault.{LoadFault}
use Rattle.core_accepted.specs.declared.loading.LoadFault.TheVariants.{Refused, OtherServers}
use Rattle.core_accepted.specs.declared.served.ServedCore.{ServedCore}
use Rattle.core_accepted.specs.Loading.{RefusesLoad}

-- both lists have the same text at this place
abbrev pub HaveOneAt : ℕ → List (List ℕ) → List (List ℕ) → Type 0
HaveOneAt at xs ys = (text : List ℕ) × (slice_get xs at ≡ Some text) × (slice_get ys at ≡ Some text)

-- these servers are those that have links, in their order, or these and then others
abbrev pub BeginWith : (had servers : List (List ℕ)) → Type 0
BeginWith had servers = (more : List (List ℕ)) × (servers ≡ had ++ more)

-- why links aren't brought to servers: they don't begin with those that have links; or memory was refused
abbrev pub RefusesServers : (had servers : List (List ℕ)) → LoadFault → Type 0
RefusesServers had servers OtherServers = BeginWith had servers → ⊥
RefusesServers had servers (Refused fault) = fault ≡ gate.NoMemory

-- why a configuration isn't loaded with its servers: links aren't brought to these; or they begin with those that have links, and the core refuses it
abbrev pub RefusesBoth : (had servers : List (List ℕ)) → ServedCore → Configuration → LoadFault → Type 0
RefusesBoth had servers core config fault = RefusesServers had servers fault ⊎ (BeginWith had servers × RefusesLoad core config fault)
