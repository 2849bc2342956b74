-- A line says an event, or has a trouble. Source: mcgate's own.
use Rattle.std.specs.Prelude.{◌≡◌, ℕ, List, Option, Some, None, IsSome}
use Rattle.route_json.specs.Servers.{Addresses}
use Rattle.script_events.specs.Events.{event_said}
use Rattle.script_events.specs.Told.{Meaning, Nothing, Unreadable, Says, Loads, line_means}
use Rattle.fault_words.specs.Troubles.{Trouble, NoConfiguration, trouble_in}

-- one of the two is there, and the other isn't
abbrev pub IsEither : {A B : Type 0} → Option A → Option B → Type 0
IsEither None None = ⊥
IsEither None (Some b) = Unit {0}
IsEither (Some a) None = Unit {0}
IsEither (Some a) (Some b) = ⊥

-- each line says an event, or has a trouble, and never both
abbrev pub EachLineIsEither : Type 0
EachLineIsEither = (line : List ℕ) → IsEither (event_said line) (trouble_in line)

-- a line with this meaning may have this trouble: what can't be read has one, what says an event has none, and what loads a
-- configuration only that of a reload line, which isn't told of it; of an empty line and a comment nobody asks
abbrev pub GoesWith : Meaning → Option Trouble → Type 0
GoesWith Nothing trouble = Unit {0}
GoesWith Unreadable trouble = IsSome trouble
GoesWith (Says event) trouble = trouble ≡ None
GoesWith (Loads c) trouble = trouble ≡ Some NoConfiguration

-- whatever servers are known, each line of a script goes with its trouble
abbrev pub EachLineGoesWithItsTrouble : Type 0
EachLineGoesWithItsTrouble = (used : Addresses) (line : List ℕ) → GoesWith (line_means used line) (trouble_in line)
