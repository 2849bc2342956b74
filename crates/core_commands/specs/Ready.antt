-- Which of the commands under way can go on. Source: mcgate's own.
use Rattle.std.specs.Prelude.{◌≡◌, ℕ, ◌<◌, ◌≤◌, Bool, true, false, Some, nat_eq, count_by}
use Rattle.indexmap.specs.IndexMap as map
use Rattle.route_job.specs.Jobs.{server_of_pending, IsCalling, IsDone}
use Rattle.core_commands.specs.declared.command.Command.{Command}
use Rattle.core_commands.specs.declared.turns.Turn.{Turn}
use Rattle.core_commands.specs.declared.turns.Turn.TheVariants as turns
pub use Rattle.core_commands.specs.Counts.{is_called}
use Rattle.core_commands.specs.Out.{has_call_out}

-- how many calls are out at a server
abbrev pub calls_at : ℕ → {S : Type 0} → map.IndexMap ℕ Command S → ℕ
calls_at server commands = count_by (is_called server) (map.values commands)

-- a command of the client of which no call is out
pub record IsIdle {S : Type 0} (client : ℕ) (commands : map.IndexMap ℕ Command S) (number : ℕ) (a : Command) : Type 0 where
  pub was : map.get nat_eq commands number ≡ Some a
  pub own : a.client ≡ client
  pub idle : has_call_out a ≡ false

-- what a command of the client can do: its next call goes out, it ends, or that call waits for its server, which has as many out as it may have; or its call is out. Of any other nothing is said
abbrev pub IsCommandTurn : ℕ → ℕ → {S : Type 0} → map.IndexMap ℕ Command S → ℕ → Turn → Type 0
IsCommandTurn client window commands number turns.Sends = (a : Command) × IsIdle client commands number a × IsCalling a.job × (calls_at (server_of_pending a.job.pending) commands < window)
IsCommandTurn client window commands number turns.Full = (a : Command) × IsIdle client commands number a × IsCalling a.job × (window ≤ calls_at (server_of_pending a.job.pending) commands)
IsCommandTurn client window commands number turns.Ends = (a : Command) × IsIdle client commands number a × IsDone a.job
IsCommandTurn client window commands number turns.Rests = (a : Command) → map.get nat_eq commands number ≡ Some a → a.client ≡ client → has_call_out a ≡ true

-- whether a command goes on at its turn: its next call goes out, or it ends
abbrev pub goes_on : Turn → Bool
goes_on turns.Sends = true
goes_on turns.Ends = true
goes_on turns.Full = false
goes_on turns.Rests = false
