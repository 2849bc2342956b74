-- What is printed of a configuration that is accepted or refused, and of a text that is none. Source: mcgate's own.
use Rattle.std.specs.Prelude.{◌≡◌, ℕ, ◌⊎◌, List, [], ◌∷◌, ◌++◌, Option, Some, None, Result, map}
use Rattle.std.specs.Io.KnownBytes.{Appends}
use Rattle.serde_json.specs.Read.{read}
use Rattle.route_tree.specs.Route.{Route}
use Rattle.route_json.specs.declared.fault.ConfigFault.{ConfigFault}
use Rattle.route_json.specs.Configuration.{Configuration}
use Rattle.gate_check.specs.declared.places.table.PlaceTable.{PlaceTable}
use Rattle.gate_check.specs.Tables.{IsTable, row_count}
use Rattle.gate_check.specs.declared.gap.Gap.{Gap}
use Rattle.gate_check.specs.declared.gap.Reason.{Reason}
use Rattle.gate_check.specs.declared.gap.Reason.TheVariants as reasons
use Rattle.gate_check.specs.Gate.{IsCertified, IsJudged}
use Rattle.script_events.specs.declared.script.Script.{Script}
use Rattle.script_events.specs.Scripted.{Scripted, scripted_of}
use Rattle.mcgate_check.specs.Refusals.{IsRefusalRun, MayLack}
use Rattle.script_events.specs.FirstLine.{WhyNot, TellsFault}
use Rattle.script_events.specs.Told.{Told}
use Rattle.mcgate_lines.specs.Faults.{config_fault_line}
use Rattle.script_events.specs.ScriptLines.{script_lines}
use Rattle.script_events.specs.LineLaws.{AreReadBack}
use Rattle.mcgate_lines.specs.Verdict.{accepted_line, judged_line}
use Rattle.mcgate_lines.specs.declared.status.RunFault.TheVariants.{NoMemory}

-- the tree's table of places has so many
abbrev pub TreeHasPlaces : Route → ℕ → Type 0
TreeHasPlaces tree n = (table : PlaceTable) × IsTable (tree ∷ []) table × (n ≡ row_count table)

-- some certificate is valid for the tree, and that and the number of its places were written
pub record PrintsAccepted (tree : Route) (old new : Option (List ℕ)) : Type 0 where
  pub certified : IsCertified tree
  pub places : ℕ
  pub counted : TreeHasPlaces tree places
  pub printed : Appends old new (accepted_line places)

-- a reason that has a line
abbrev pub ReasonHasLine : Reason → Type 0
ReasonHasLine reasons.TooManyPlaces = Unit {0}
ReasonHasLine (reasons.BadCertificate row) = Unit {0}
ReasonHasLine (reasons.Uncovered gap) = Unit {0}
ReasonHasLine reasons.NoMemory = ⊥

-- the tree is refused for this reason, and that was written
pub record PrintsRefused (config : Configuration) (old new : Option (List ℕ)) : Type 0 where
  pub reason : Reason
  pub told : ReasonHasLine reason
  pub judged : IsJudged config.tree reason
  pub printed : Appends old new (judged_line config.servers reason)

-- the lines of a script, or nothing
abbrev pub run_lines : Option Script → List ℕ
run_lines None = []
run_lines (Some script) = script_lines (map scripted_of script.events.items)

-- the lines are those of a script that shows the gap, and are read back as that script; or there are none and the gap may have no such script
abbrev pub ShowsGap : Configuration → Gap → List ℕ → Type 0
ShowsGap config gap lines =
    ((events : List Scripted) × IsRefusalRun config gap events × AreReadBack events × (lines ≡ script_lines events)) ⊎ (MayLack config.tree gap × (lines ≡ []))

-- the lines of this reason: those of a gap show it, or it may have no script; of another reason there are none
abbrev pub ShowsReason : Configuration → Reason → List ℕ → Type 0
ShowsReason config (reasons.Uncovered gap) lines = ShowsGap config gap lines
ShowsReason config reasons.TooManyPlaces lines = lines ≡ []
ShowsReason config (reasons.BadCertificate row) lines = lines ≡ []
ShowsReason config reasons.NoMemory lines = lines ≡ []

-- the script that was found for a reason, which a gap alone may have; or there is none
abbrev pub IsFoundFor : Configuration → Reason → Option Script → Type 0
IsFoundFor config (reasons.Uncovered gap) None = MayLack config.tree gap
IsFoundFor config (reasons.Uncovered gap) (Some script) = IsRefusalRun config gap (map scripted_of script.events.items)
IsFoundFor config reasons.TooManyPlaces found = found ≡ None
IsFoundFor config (reasons.BadCertificate row) found = found ≡ None
IsFoundFor config reasons.NoMemory found = found ≡ None

-- the tree is refused for this reason, and that and then the lines of the script that shows it were written
pub record ChecksRefused (config : Configuration) (reason : Reason) (old new : Option (List ℕ)) : Type 0 where
  pub told : ReasonHasLine reason
  pub judged : IsJudged config.tree reason
  pub run : List ℕ
  pub shows : ShowsReason config reason run
  pub printed : Appends old new (judged_line config.servers reason ++ run)

-- the tree is refused for this reason, and that and then the lines of this script, if one was found, were written
pub record ChecksFound (config : Configuration) (reason : Reason) (found : Option Script) (old new : Option (List ℕ)) : Type 0 where
  pub checks : ChecksRefused config reason old new
  pub run_is : checks.run ≡ run_lines found

-- of a script's text: its configuration has a fault, and that was written
pub record HasFaultyConfig (t : Result Told WhyNot) (old new : Option (List ℕ)) : Type 0 where
  pub fault : ConfigFault
  pub tells : TellsFault t fault
  pub printed : Appends old new (config_fault_line fault)
