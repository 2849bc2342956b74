-- Which numbers stand at which names. Source: mcgate's own; Prometheus' conventions for names and labels.
use Rattle.std.specs.Prelude.{◌≡◌, ℕ, List, [], ◌∷◌, ◌++◌, codes, map as each, flat_map, string_bytes}
use Rattle.watch_admin.specs.declared.families.Amount.{Amount}
use Rattle.watch_admin.specs.declared.families.Amount.TheVariants.{Count}
use Rattle.watch_admin.specs.declared.families.Label.{Label}
use Rattle.watch_admin.specs.declared.families.Sample.{Sample}
use Rattle.watch_admin.specs.declared.families.Samples.{Samples}
use Rattle.watch_admin.specs.declared.families.Samples.TheVariants.{One, Each, Times}
use Rattle.watch_admin.specs.declared.families.Family.{Family}
use Rattle.watch_admin.specs.declared.numbers.ClientNumbers.{ClientNumbers}
use Rattle.watch_admin.specs.declared.numbers.CallNumbers.{CallNumbers}
use Rattle.watch_admin.specs.declared.numbers.CommandNumbers.{CommandNumbers}
use Rattle.watch_admin.specs.declared.numbers.ServerNumbers.{ServerNumbers}

-- the names of labels with their values, and the number that has them
abbrev pub Labelled : Type 0
Labelled = List (List ℕ × List ℕ) × Amount

abbrev pub label_read : Label → List ℕ × List ℕ
label_read label = (label.name.now, string_bytes label.value)

abbrev pub sample_read : Sample → Labelled
sample_read sample = (each label_read sample.labels.items, sample.amount)

-- these are its numbers, in this order; of times nothing is said
abbrev pub AreNumbers : List Labelled → Samples → Type 0
AreNumbers numbers (Each samples) = each sample_read samples.items ≡ numbers
AreNumbers numbers (One amount) = ([], amount) ∷ [] ≡ numbers
AreNumbers numbers (Times spread) = ⊥

-- the family of this name has just these numbers
pub record Tells (name : List ℕ) (numbers : List Labelled) (family : Family) : Type 0 where
  pub name_is : family.name.now ≡ name
  pub numbers_are : AreNumbers numbers family.samples

-- one of these families is so
pub record IsAmong (Is : Family → Type 0) (families : List Family) : Type 0 where
  pub before : List Family
  pub family : Family
  pub after : List Family
  pub parts : families ≡ before ++ family ∷ after
  pub is : Is family

-- a count of commands of an operation with replies of a kind
abbrev pub command_count : List ℕ → List ℕ → ℕ → Labelled
command_count op reply count = ((codes "op", op) ∷ (codes "reply", reply) ∷ [], Count count)

abbrev pub command_counts : CommandNumbers → List Labelled
command_counts commands =
    command_count commands.op.now (codes "item") commands.items
    ∷ command_count commands.op.now (codes "acknowledged") commands.acknowledged
    ∷ command_count commands.op.now (codes "error") commands.errors
    ∷ command_count commands.op.now (codes "other") commands.others
    ∷ []

-- mcgate_commands_total{op,reply}: of each operation how many commands have ended with each kind of reply
abbrev pub TellsCommands : List CommandNumbers → List Family → Type 0
TellsCommands commands families = IsAmong (Tells (codes "mcgate_commands_total") (flat_map command_counts commands)) families

-- a number with one label
abbrev pub one_labelled : (name value : List ℕ) → ℕ → Labelled
one_labelled name value count = ((name, value) ∷ [], Count count)

abbrev pub came_counts : ClientNumbers → List Labelled
came_counts clients = one_labelled (codes "verdict") (codes "accepted") clients.accepted ∷ one_labelled (codes "verdict") (codes "refused") clients.refused ∷ []

-- mcgate_client_connections_total{verdict}: how many clients were taken, and how many were turned away
abbrev pub TellsClients : ClientNumbers → List Family → Type 0
TellsClients clients families = IsAmong (Tells (codes "mcgate_client_connections_total") (came_counts clients)) families

-- mcgate_bad_messages_total: how many of their messages were refused
abbrev pub TellsMessages : ClientNumbers → List Family → Type 0
TellsMessages clients families = IsAmong (Tells (codes "mcgate_bad_messages_total") (([], Count clients.bad_messages) ∷ [])) families

-- mcgate_commands_begun_total: how many commands have begun
abbrev pub TellsBegun : ℕ → List Family → Type 0
TellsBegun begun families = IsAmong (Tells (codes "mcgate_commands_begun_total") (([], Count begun) ∷ [])) families

abbrev pub ended_counts : CallNumbers → List Labelled
ended_counts calls = one_labelled (codes "outcome") (codes "answered") calls.answered ∷ one_labelled (codes "outcome") (codes "failed") calls.failed ∷ []

-- mcgate_calls_made_total and mcgate_calls_total{outcome}: how many calls were made, and how many of them were answered, and have failed
abbrev pub TellsCalls : CallNumbers → List Family → Type 0
TellsCalls calls families =
    IsAmong (Tells (codes "mcgate_calls_made_total") (([], Count calls.made) ∷ [])) families × IsAmong (Tells (codes "mcgate_calls_total") (ended_counts calls)) families

-- a number of a server
abbrev pub server_count : ServerNumbers → ℕ → Labelled
server_count server count = one_labelled (codes "server") (string_bytes server.text) count

abbrev pub made_count : ServerNumbers → Labelled
made_count server = server_count server server.made

-- a count of its calls that ended so
abbrev pub outcome_count : ServerNumbers → List ℕ → ℕ → Labelled
outcome_count server outcome count = ((codes "server", string_bytes server.text) ∷ (codes "outcome", outcome) ∷ [], Count count)

abbrev pub outcome_counts : ServerNumbers → List Labelled
outcome_counts server =
    outcome_count server (codes "answered") server.answered ∷ outcome_count server (codes "failed") server.failed ∷ outcome_count server (codes "unsent") server.unsent ∷ []

-- mcgate_server_calls_made_total{server} and mcgate_server_calls_total{server,outcome}: of each server how many calls were made, and how many of them were answered, and have failed after they went out, or unsent
abbrev pub TellsServers : List ServerNumbers → List Family → Type 0
TellsServers servers families =
    IsAmong (Tells (codes "mcgate_server_calls_made_total") (each made_count servers)) families
    × IsAmong (Tells (codes "mcgate_server_calls_total") (flat_map outcome_counts servers)) families

-- mcgate_calls_unplaced_total: how often a call is counted at no server
abbrev pub TellsUnplaced : CallNumbers → List Family → Type 0
TellsUnplaced calls families = IsAmong (Tells (codes "mcgate_calls_unplaced_total") (([], Count calls.unplaced) ∷ [])) families

-- some were added behind
pub record AddsTo (old new : List Family) : Type 0 where
  pub more : List Family
  pub adds : new ≡ old ++ more
