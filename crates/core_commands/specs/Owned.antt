-- The commands of one client. Source: mcgate's own.
use Rattle.std.specs.Prelude.{◌≡◌, ℕ, Bool, true, false, not, Some, if◌then◌else◌, nat_eq}
use Rattle.std.specs.List.{list_any}
use Rattle.indexmap.specs.IndexMap as map
use Rattle.core_commands.specs.declared.command.Command.{Command}

-- one of the commands is this client's
abbrev pub has_commands : ℕ → {S : Type 0} → map.IndexMap ℕ Command S → Bool
has_commands client commands = list_any (λ (x : Command). nat_eq x.client client) (map.values commands)

-- the command is this client's, and no call of it is out
abbrev pub is_idle : ℕ → Command → Bool
is_idle client command = if nat_eq command.client client then not command.is_out else false

-- the command of this number is this client's, and no call of it is out
abbrev pub HasIdle : ℕ → {S : Type 0} → map.IndexMap ℕ Command S → ℕ → Type 0
HasIdle client commands n = (command : Command) × (map.get nat_eq commands n ≡ Some command) × (is_idle client command ≡ true)

-- each command of this client has a call out
abbrev pub IsAllOut : ℕ → {S : Type 0} → map.IndexMap ℕ Command S → Type 0
IsAllOut client commands = (n : ℕ) (command : Command) → map.get nat_eq commands n ≡ Some command → is_idle client command ≡ false
