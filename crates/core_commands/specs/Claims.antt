-- What a command claims of its key, and which two commands aren't under way together there. Source: mcgate's own.
use Rattle.std.specs.Prelude.{◌≡◌, ℕ, Bool, true, false, List, ◌||◌, if◌then◌else◌, nat_eq}
use Rattle.std.specs.Cmp.Lexicographic.{pointwise}
use Rattle.std.specs.List.{list_any}
use Rattle.indexmap.specs.IndexMap as map
use Rattle.mc_types.specs.declared.ask.Op.{Op}
use Rattle.mc_types.specs.declared.ask.Op.TheVariants.{Delete}
use Rattle.mc_types.specs.declared.ask.Ask.{Ask}
use Rattle.route_tree.specs.Copies.{may_copy}
use Rattle.route_tree.specs.Plan.{Plan}
use Rattle.core_commands.specs.declared.claim.Claim.{Claim}
use Rattle.core_commands.specs.declared.command.Command.{Command}
use Rattle.core_commands.specs.declared.sharing.Sharing.{Sharing}
use Rattle.core_commands.specs.declared.sharing.Sharing.TheVariants.{Alone, Shared}

abbrev pub is_delete : Op → Bool
is_delete Delete = true
is_delete _ = false

-- whether a command counts as one that clears its key: a delete; where each has its key alone, every command
abbrev pub clears_by : Sharing → Op → Bool
clears_by Alone op = true
clears_by Shared op = is_delete op

-- whether a command counts as one that copies to its key: what may copy by its plain tree; where each has its key alone, every command
abbrev pub copies_by : Sharing → Op → Plan → Bool
copies_by Alone op plan = true
copies_by Shared op plan = may_copy op plan

abbrev pub claim_by : Sharing → Op → Plan → Claim
claim_by sharing op plan = record { clears = clears_by sharing op; copies = copies_by sharing op plan }

-- on one key what copies isn't under way with what clears
abbrev pub bars_by : Sharing → (ℕ → List ℕ → Plan) → ℕ → Ask → ℕ → Ask → Type 0
bars_by sharing at number ask other client = (copies_by sharing ask.op (at number ask.key) ≡ true) × (clears_by sharing client.op ≡ true)

-- a command on this key clears it, or copies to it
abbrev pub clears_key : List ℕ → Command → Bool
clears_key key command = if command.claim.clears then pointwise nat_eq command.ask.key key else false

abbrev pub copies_key : List ℕ → Command → Bool
copies_key key command = if command.claim.copies then pointwise nat_eq command.ask.key key else false

-- one of these commands stands in the way of this claim on the key
abbrev pub is_barred : List ℕ → Claim → {S : Type 0} → map.IndexMap ℕ Command S → Bool
is_barred key claim commands = (if claim.clears then list_any (copies_key key) (map.values commands) else false) || (if claim.copies then list_any (clears_key key) (map.values commands) else false)
