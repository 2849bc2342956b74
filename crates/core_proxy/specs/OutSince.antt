-- The calls that are out at a server, in order, by those that were out before and what has come since. Source: mcgate's own.
use Rattle.std.specs.Prelude.{ℕ, List, [], ◌∷◌, ◌++◌, if◌then◌else◌, nat_eq}
use Rattle.fresh_runs.specs.Overlap.{Ticket, Entry, Feeds, Starts, Sends, Happens, Ends, Shows, Passes, Gives, Drops, Frees, Resets, out_after}
use Rattle.core_client.specs.ClientState.{dialect}

-- after these entries, the latest first
abbrev pub out_since : List (Entry dialect) → (ℕ → List Ticket) → ℕ → List Ticket
out_since [] out s = out s
out_since (Feeds client bytes ∷ log) out s = out_since log out s
out_since (Starts client number part ∷ log) out s = out_since log out s
out_since (Sends number server ask origin ∷ log) out s =
    if nat_eq server s then out_since log out s ++ record { number = number; ask = ask; origin = origin } ∷ [] else out_since log out s
out_since (Happens event ∷ log) out s = out_after event s (out_since log out s)
out_since (Ends client number part reply from ∷ log) out s = out_since log out s
out_since (Shows client slot reply ∷ log) out s = out_since log out s
out_since (Passes client message next ∷ log) out s = out_since log out s
out_since (Gives client bytes ∷ log) out s = out_since log out s
out_since (Drops client ∷ log) out s = out_since log out s
out_since (Frees number ∷ log) out s = out_since log out s
out_since (Resets client ∷ log) out s = out_since log out s
