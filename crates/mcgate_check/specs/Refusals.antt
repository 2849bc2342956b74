-- Scripts that leak for a gap, and when there may be none. Source: mcgate's own.
use Rattle.std.specs.Prelude.{◌≡◌, ℕ, ◌<◌, [], ◌∷◌, List, length, Option, Some, None, MatchOption, map, slice_get, ◌⊎◌}
use Rattle.mc_types.specs.declared.ask.Op.TheVariants.{Delete}
use Rattle.fresh_runs.specs.Log.{Scripted}
use Rattle.fresh_runs.specs.Overlap.{Entry, run_of}
use Rattle.fresh_runs.specs.OverlapStream.{stream_of}
use Rattle.fresh_runs.specs.Run.{LosesOnly, IsFreshByNumber, commands_in}
use Rattle.route_tree.specs.Place.{tree_at_place}
use Rattle.route_tree.specs.At.{tree_at}
use Rattle.route_tree.specs.Route.{Route}
use Rattle.route_tree.specs.Direct.{words_of}
use Rattle.route_json.specs.Configuration.{Configuration}
use Rattle.gate_check.specs.declared.places.table.Class.{Class}
use Rattle.gate_check.specs.declared.places.table.PlaceTable.{PlaceTable}
use Rattle.gate_check.specs.Places.{place_at}
use Rattle.gate_check.specs.Tables.{IsTable}
use Rattle.gate_check.specs.declared.gap.Gap.{Gap}
use Rattle.gate_check.specs.Gate.{IsGapAt}
use Rattle.wire_stream.specs.TextProtocol.{memcached_text}
use Rattle.wire_stream.specs.Version.{default_version}
use Rattle.core_proxy.specs.Claims.{bars_by}
use Rattle.core_proxy.specs.CoreState.{dialect}
use Rattle.core_commands.specs.declared.sharing.Sharing.TheVariants.{Alone}
use Rattle.script_events.specs.declared.servers.servers.ScriptServers.{ScriptServers}
use Rattle.script_run.specs.Standing.{replies_in_run}
use Rattle.script_run.specs.Driving.{said_in, EventsAreSettled, FollowsBy}
use Rattle.script_run.specs.World.{World}
use Rattle.script_events.specs.declared.script.Script.{Script}
use Rattle.script_events.specs.Scripted.{scripted_of}
use Rattle.script_events.specs.Opening.{opening_of}
use Rattle.script_events.specs.Bad.{first_bad}
use Rattle.gate_gaps.specs.Beside.{IsDirect}
use Rattle.gate_gaps.specs.Scripts.{Leaks}
use Rattle.mcgate_check.specs.declared.leaks.failures.Failures.{Failures}
use Rattle.mcgate_check.specs.Tried.{tried, NoneBefore, IsFirstKeyTried}
use Rattle.mcgate_check.specs.Commands.{script_for}
use Rattle.mcgate_check.specs.Failing.{failures_of}

-- the gap is one of the tree, at a place of its table
pub record IsRealGap (tree : Route) (gap : Gap) : Type 0 where
  pub table : PlaceTable
  pub is_table : IsTable (tree ∷ []) table
  pub index : ℕ
  pub class : Class
  pub is_class : slice_get table.classes.items index ≡ Some class
  pub below : gap.place.residue < table.modulus
  pub at : gap.place ≡ place_at class.prefix gap.place.residue table.modulus
  pub gap_at : IsGapAt (tree_at_place tree gap.place) (tree_at_place tree gap.place) gap.server gap.op gap.deleting

-- a log of the script as it is driven, each command alone on its key: its clients say what the script says and have all their replies, calls have the results that the script and the tables of servers make, nobody but the core writes the servers, and its run isn't fresh
pub record LeaksStepped (tree : Route) (events : List Scripted) : Type 0 where
  pub log : List (Entry dialect)
  pub follows : FollowsBy tree [] events log
  pub streams : (c : ℕ) → stream_of log c ≡ said_in events c
  pub settled : EventsAreSettled events log
  pub replied : replies_in_run (run_of log) ≡ commands_in (run_of log)
  pub servers : ScriptServers
  pub world : World events events log servers
  pub loses : LosesOnly (run_of log)
  pub leaks : IsFreshByNumber (opening_of events) (run_of log) → ⊥

-- over the configuration's servers each of the events can be, so that the script can be driven; and it has a log, by the tree's words and with each command alone on its key, whose run isn't fresh: one of these events, whatever the servers' tables, or one as it is driven
pub record IsShowing (config : Configuration) (events : List Scripted) : Type 0 where
  pub can_be : first_bad (length config.servers) events ≡ None
  pub leaks : Leaks memcached_text (words_of config.tree) (bars_by Alone (λ n key. tree_at config.tree key)) (opening_of events) default_version events ⊎ LeaksStepped config.tree events

-- the script, over the first key that is tried and stands at the gap's place, can be driven and has a run that isn't fresh, none of whose commands is broken; the failed calls are those that it names, not applied. Where each call but one of the delete and one of the read can fail, so many do before it
pub record IsRefusalRun (config : Configuration) (gap : Gap) (events : List Scripted) : Type 0 where
  pub key : List ℕ
  pub first : IsFirstKeyTried config.tree gap.place key
  pub delete : ℕ
  pub read : ℕ
  pub script_is : events ≡ script_for gap.server key gap.op delete read
  pub failing : (f : Failures) → failures_of gap.op gap.server (tree_at config.tree key) ≡ Some f → (delete ≡ f.delete) × (read ≡ f.read)
  pub shows : IsShowing config events

-- an all-sync or a warm-up stands in the plain tree of the delete or of the read, children for other operations aside
abbrev pub IsRoundabout : Route → Gap → Type 0
IsRoundabout tree gap = IsDirect Delete (tree_at_place tree gap.place) → IsDirect gap.op (tree_at_place tree gap.place) → ⊥

-- why a gap of the tree may have no such script: no key that is tried is at its place, or an all-sync or a warm-up stands in the way
abbrev pub MayLack : Route → Gap → Type 0
MayLack tree gap = NoneBefore tree gap.place tried ⊎ IsRoundabout tree gap

-- a script that leaks, or a reason for a gap to have none
abbrev pub IsLeakAnswer : Configuration → Gap → Option Script → Type 0
IsLeakAnswer config gap found = MatchOption found (IsRealGap config.tree gap → MayLack config.tree gap) (λ script. IsRefusalRun config gap (map scripted_of script.events.items))
