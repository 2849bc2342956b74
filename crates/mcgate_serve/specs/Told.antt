-- What a proxy that runs tells of what its core counts. Source: mcgate's own.
use Rattle.std.specs.Prelude.{◌≡◌, ℕ, ◌-◌, List, [], ◌∷◌, Some, codes, flat_map, slice_get, string_bytes}
use Rattle.mc_types.specs.declared.ask.Op.{Op}
use Rattle.mc_types.specs.Asks.{all_ops}
use Rattle.route_tree.specs.Each.{Each}
use Rattle.gate_gaps.specs.Names.{op_name}
use Rattle.core_accepted.specs.declared.tally.CoreTally.{CoreTally}
use Rattle.core_accepted.specs.declared.served.ServedCore.{ServedCore}
use Rattle.route_json.specs.Servers.{Addresses}
use Rattle.core_accepted.specs.Tallies.{of_op, of_server}
use Rattle.watch_admin.specs.declared.families.Amount.TheVariants.{Count}
use Rattle.watch_admin.specs.declared.families.Family.{Family}
use Rattle.watch_admin.specs.declared.numbers.Numbers.{Numbers}
use Rattle.watch_admin.specs.declared.numbers.ServerNumbers.{ServerNumbers}
use Rattle.watch_admin.specs.Prometheus.{families_text}
use Rattle.watch_admin.specs.Json.{object_json}
use Rattle.watch_admin.specs.Told.{Labelled, Tells, IsAmong, TellsClients, TellsMessages, TellsBegun, TellsCommands, TellsCalls, TellsServers, TellsUnplaced, one_labelled, command_count, command_counts}

-- how many commands of an operation have ended with each kind of reply
abbrev pub op_counts : CoreTally → Op → List Labelled
op_counts tally op =
    command_count (op_name op) (codes "item") (of_op tally op).items
    ∷ command_count (op_name op) (codes "acknowledged") (of_op tally op).acknowledged
    ∷ command_count (op_name op) (codes "error") (of_op tally op).errors
    ∷ command_count (op_name op) (codes "other") (of_op tally op).others
    ∷ []

-- some families tell of these numbers, and the text is theirs, in Prometheus' format or in JSON
pub record FamiliesTell (numbers : Numbers) (families : List Family) : Type 0 where
  pub clients : TellsClients numbers.clients families
  pub messages : TellsMessages numbers.clients families
  pub begun : TellsBegun numbers.begun families
  pub commands : TellsCommands numbers.commands.items families
  pub calls : TellsCalls numbers.calls families
  pub servers : TellsServers numbers.servers.items families
  pub unplaced : TellsUnplaced numbers.calls families

abbrev pub IsInPrometheus : Numbers → List ℕ → Type 0
IsInPrometheus numbers text = (families : List Family) × FamiliesTell numbers families × (text ≡ families_text families)

abbrev pub IsInJson : Numbers → List ℕ → Type 0
IsInJson numbers text = (families : List Family) × FamiliesTell numbers families × (text ≡ object_json families)

-- these numbers have what the core counts of the server of this number, under this text; those that failed unsent stand apart
pub record IsToldOf (tally : CoreTally) (server : ℕ) (text : List ℕ) (numbers : ServerNumbers) : Type 0 where
  pub text_is : string_bytes numbers.text ≡ text
  pub made : numbers.made ≡ (of_server tally server).calls
  pub answered : numbers.answered ≡ (of_server tally server).answered
  pub failed : numbers.failed ≡ (of_server tally server).failed - numbers.unsent

-- these numbers have what the core counts of one of these servers, under its text
abbrev pub IsRowOfServer : CoreTally → Addresses → ServerNumbers → Type 0
IsRowOfServer tally servers numbers = (server : ℕ) × (text : List ℕ) × (slice_get servers server ≡ Some text) × IsToldOf tally server text numbers

-- each of these rows has what the core counts of one of these servers, under its text
abbrev pub AreOfServers : CoreTally → Addresses → List ServerNumbers → Type 0
AreOfServers tally servers rows = Each (IsRowOfServer tally servers) rows

-- these numbers have what the core counts, also of servers
pub record HasTally (core : ServedCore) (servers : Addresses) (numbers : Numbers) : Type 0 where
  pub opened : numbers.clients.accepted ≡ core.tally.opened
  pub refused : numbers.clients.refused ≡ core.tally.refused
  pub bad_messages : numbers.clients.bad_messages ≡ core.tally.bad_messages
  pub begun : numbers.begun ≡ core.core.number
  pub commands : flat_map command_counts numbers.commands.items ≡ flat_map (op_counts core.tally) all_ops
  pub made : numbers.calls.made ≡ core.tally.calls
  pub answered : numbers.calls.answered ≡ core.tally.answered
  pub failed : numbers.calls.failed ≡ core.tally.failed
  pub unplaced : numbers.calls.unplaced ≡ core.tally.unplaced
  pub servers_are : AreOfServers core.tally servers numbers.servers.items

-- what the core counts stands at its names: clients that came, messages that were refused, commands that have begun and that have ended, and calls, also those of servers, each under its text, and how often one is counted at none
pub record TellsTally (core : ServedCore) (servers : Addresses) (families : List Family) : Type 0 where
  pub clients :
      IsAmong
      (Tells
      (codes "mcgate_client_connections_total")
      (one_labelled (codes "verdict") (codes "accepted") core.tally.opened ∷ one_labelled (codes "verdict") (codes "refused") core.tally.refused ∷ []))
      families
  pub bad_messages : IsAmong (Tells (codes "mcgate_bad_messages_total") (([], Count core.tally.bad_messages) ∷ [])) families
  pub begun : IsAmong (Tells (codes "mcgate_commands_begun_total") (([], Count core.core.number) ∷ [])) families
  pub commands : IsAmong (Tells (codes "mcgate_commands_total") (flat_map (op_counts core.tally) all_ops)) families
  pub made : IsAmong (Tells (codes "mcgate_calls_made_total") (([], Count core.tally.calls) ∷ [])) families
  pub ended :
      IsAmong
      (Tells
      (codes "mcgate_calls_total")
      (one_labelled (codes "outcome") (codes "answered") core.tally.answered ∷ one_labelled (codes "outcome") (codes "failed") core.tally.failed ∷ []))
      families
  pub of_servers : (rows : List ServerNumbers) × AreOfServers core.tally servers rows × TellsServers rows families
  pub unplaced : IsAmong (Tells (codes "mcgate_calls_unplaced_total") (([], Count core.tally.unplaced) ∷ [])) families

-- the text is that of such families, in Prometheus' format or in JSON
abbrev pub TellsInPrometheus : ServedCore → Addresses → List ℕ → Type 0
TellsInPrometheus core servers text = (families : List Family) × TellsTally core servers families × (text ≡ families_text families)

abbrev pub TellsInJson : ServedCore → Addresses → List ℕ → Type 0
TellsInJson core servers text = (families : List Family) × TellsTally core servers families × (text ≡ object_json families)
