-- The statuses of what was printed, and the tree that was judged.
use Rattle.std.proofs.Common.{◌≡◌, ℕ, ◌≤◌, List, [], ◌∷◌, Option, Some, arith, inl, inr, sym, subst}
use Rattle.route_json.specs.Configuration.{Configuration}
use Rattle.route_tree.specs.Route.{Route}
use Rattle.gate_check.specs.declared.places.table.PlaceTable.{PlaceTable}
use Rattle.gate_check.specs.Gate.{IsCertified}
use Rattle.gate_check.specs.Sound.{IsLast}
use Rattle.gate_check.specs.Tables.{IsTable}
use Rattle.mcgate_lines.specs.Faults.{StopsUnwritten, fault_answer}
use Rattle.mcgate_check.specs.Reporting.{Checks, ReportsConfig}
use Rattle.mcgate_lines.specs.declared.verdict.Form.{Form}
use Rattle.mcgate_lines.specs.declared.status.RunFault.{RunFault}
use Rattle.mcgate_lines.specs.declared.status.RunFault.TheVariants.{NoMemory, Writer, TooManyCalls}

config_status : (form : Form) (text : List ℕ) (config : Configuration) (old new : Option (List ℕ)) (status : ℕ) → ReportsConfig form text config old new status → status ≤ 1
config_status form text config old new status (inl accepted) = let e = accepted.0 in omega (arith, e)
config_status form text config old new status (inr refused) = let e = refused.0 in omega (arith, e)

pub checks_status : (form : Form) (text : List ℕ) (old new : Option (List ℕ)) (status : ℕ) → Checks form text old new status → status ≤ 2
checks_status form text old new status (inl verdict) = let few = config_status form text verdict.config old new status verdict.reports in omega (arith, few)
checks_status form text old new status (inr faulty) = let e = faulty.0 in omega (arith, e)

-- no calls are made
pub stops_status : (old new : Option (List ℕ)) (fault : RunFault) → StopsUnwritten old new fault → fault_answer fault ≤ 4
stops_status old new NoMemory kept = omega arith
stops_status old new Writer kept = omega arith
stops_status old new TooManyCalls kept = absurd kept

same : (a b : Configuration) → Some a ≡ Some b → a ≡ b
same a b e = cc

-- what holds of the tree of a configuration that is in use alone holds of the tree in use
in_use : (P : Route → Type 0) (configs : List Configuration) (config used : Configuration) (tree : Route) → configs ≡ config ∷ [] → IsLast configs used → tree ≡ used.tree → P config.tree → P tree
in_use P configs config used tree one last is holds =
    let alone = subst (λ (l : List Configuration). IsLast l used) one last in
    subst P (sym is) (subst (λ (c : Configuration). P c.tree) (same config used alone) holds)

pub certified_in_use : (configs : List Configuration) (config used : Configuration) (tree : Route) → configs ≡ config ∷ [] → IsLast configs used → tree ≡ used.tree → IsCertified config.tree → IsCertified tree
certified_in_use configs config used tree one last is certified = in_use IsCertified configs config used tree one last is certified

pub table_in_use : (table : PlaceTable) (configs : List Configuration) (config used : Configuration) (tree : Route) → configs ≡ config ∷ [] → IsLast configs used → tree ≡ used.tree → IsTable (config.tree ∷ []) table → IsTable (tree ∷ []) table
table_in_use table configs config used tree one last is t = in_use (λ r. IsTable (r ∷ []) table) configs config used tree one last is t
