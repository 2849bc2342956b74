-- How many commands under way clear each key, and how many copy to it, how many calls are out at each server, and how many commands of each client have none out. Source: mcgate's own.
use Rattle.std.specs.Prelude.{◌≡◌, ℕ, Bool, true, false, not, List, Some, if◌then◌else◌, nat_eq, count_by, slice_index_or}
use Rattle.std.specs.Cmp.Lexicographic.{pointwise}
use Rattle.std.specs.Map.{count_at}
use Rattle.std.specs.declared.hash.FoldHasher.{FoldHasher}
use Rattle.std.specs.declared.hash.BuildHasherDefault.{BuildHasherDefault}
use Rattle.indexmap.specs.IndexMap as map
use Rattle.route_job.specs.Jobs.{server_of_pending}
use Rattle.core_commands.specs.declared.command.Command.{Command}
use Rattle.core_commands.specs.Claims.{clears_key, copies_key}
use Rattle.core_commands.specs.Out.{has_call_out}

-- commands by number
abbrev pub ByNumber : Type 0
ByNumber = map.IndexMap ℕ Command (BuildHasherDefault FoldHasher)

-- of this there are so many now, and of all else as many as before
abbrev pub SetsCount : {K S : Type 0} → (K → K → Bool) → K → ℕ → map.IndexMap K ℕ S → map.IndexMap K ℕ S → Type 0
SetsCount {K} eq key n old new = (q : K) → count_at (map.get eq new) q ≡ (if eq key q then n else count_at (map.get eq old) q)

-- the call of a command is out at this server
abbrev pub is_called : ℕ → Command → Bool
is_called server command = if has_call_out command then nat_eq (server_of_pending command.job.pending) server else false

-- where it counts, there are so many of it now, and of all else as many as before
abbrev pub SetsCountWhere : Bool → {K S : Type 0} → (K → K → Bool) → K → ℕ → map.IndexMap K ℕ S → map.IndexMap K ℕ S → Type 0
SetsCountWhere true eq key n old new = SetsCount eq key n old new
SetsCountWhere false eq key n old new = new ≡ old

-- at this place there are so many now, and at all else as many as before
abbrev pub SetsCountAt : ℕ → ℕ → List ℕ → List ℕ → Type 0
SetsCountAt place n old new = (q : ℕ) → slice_index_or new q 0 ≡ (if nat_eq place q then n else slice_index_or old q 0)

-- the command is this client's, and no call of it is out
abbrev pub is_without_call : ℕ → Command → Bool
is_without_call client command = if nat_eq command.client client then not (has_call_out command) else false

-- each command of this client has its call out
abbrev pub HasAllCallsOut : ℕ → {S : Type 0} → map.IndexMap ℕ Command S → Type 0
HasAllCallsOut client commands = (n : ℕ) (command : Command) → map.get nat_eq commands n ≡ Some command → command.client ≡ client → has_call_out command ≡ true

-- the counts are those of the commands: at each place of `calls` as many as are out at that server, at each of `waiting` as many as that client has without a call
pub record CountsCommands {S T : Type 0} (commands : map.IndexMap ℕ Command S) (clearing copying : map.IndexMap (List ℕ) ℕ T) (calls waiting : List ℕ) : Type 0 where
  pub clears : (key : List ℕ) → count_at (map.get (pointwise nat_eq) clearing) key ≡ count_by (clears_key key) (map.values commands)
  pub copies : (key : List ℕ) → count_at (map.get (pointwise nat_eq) copying) key ≡ count_by (copies_key key) (map.values commands)
  pub at : (server : ℕ) → slice_index_or calls server 0 ≡ count_by (is_called server) (map.values commands)
  pub without : (client : ℕ) → slice_index_or waiting client 0 ≡ count_by (is_without_call client) (map.values commands)
