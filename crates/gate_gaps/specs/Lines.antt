-- An explanation as lines. Source: mcgate's own.
use Rattle.std.specs.Prelude.{ℕ, ◌++◌, Bool, false, ◌||◌, not, List, [], ◌∷◌, codes, decimal, flat_map, if◌then◌else◌}
use Rattle.text_words.specs.Escapes.{escaped}
use Rattle.mc_types.specs.declared.ask.Op.{Op}
use Rattle.route_json.specs.NumberedServers.{Addresses}
use Rattle.gate_coverage.specs.declared.deleting.Deleting.{Deleting}
use Rattle.gate_gaps.specs.Names.{op_name, delete_name, server_address}
use Rattle.gate_gaps.specs.Phrases.{gap_phrase_text}
use Rattle.gate_gaps.specs.Pools.{NamedPools}
use Rattle.gate_gaps.specs.PoolWords.{server_text}
use Rattle.gate_gaps.specs.declared.phrases.Phrase.{Phrase}
use Rattle.gate_gaps.specs.declared.phrases.Phrase.TheVariants as phrases
use Rattle.gate_gaps.specs.declared.explanation.Explanation.{Explanation}
use Rattle.gate_gaps.specs.declared.server_uses.ServerUse.{ServerUse}
use Rattle.gate_gaps.specs.declared.ways.Listed.{Listed}
use Rattle.gate_gaps.specs.declared.ways.Listed.TheVariants as lists
use Rattle.gate_gaps.specs.declared.ways.WayStep.{WayStep}
use Rattle.gate_gaps.specs.declared.ways.WayStep.TheVariants as steps
use Rattle.gate_gaps.specs.declared.writing.Which.{Which}
use Rattle.gate_gaps.specs.declared.writing.Which.TheVariants as which

abbrev pub list_phrase : Listed → Phrase
list_phrase lists.AllSync = phrases.AllSync
list_phrase lists.Failover = phrases.Failover
list_phrase lists.MissFailover = phrases.MissFailover

-- a step, by the name of the route and the field of the child
abbrev pub step_text : WayStep → List ℕ
step_text (steps.Child listed n) = codes " " ++ gap_phrase_text (list_phrase listed) ++ codes " children[" ++ decimal n ++ codes "] >"
step_text (steps.Policy op) = codes " " ++ gap_phrase_text phrases.Policies ++ codes "." ++ op_name op ++ codes " >"
step_text steps.Cold = codes " " ++ gap_phrase_text phrases.Cold ++ codes " >"
step_text steps.Warm = codes " " ++ gap_phrase_text phrases.Warm ++ codes " >"
step_text steps.Default = codes " " ++ gap_phrase_text phrases.Default ++ codes " >"

abbrev pub steps_text : List WayStep → List ℕ
steps_text way = flat_map step_text way

abbrev pub way_front : (address : List ℕ) → Op → List ℕ
way_front address op = codes "# a " ++ op_name op ++ codes " " ++ gap_phrase_text phrases.CanShow ++ codes " " ++ escaped address ++ codes " " ++ gap_phrase_text phrases.Holds

abbrev pub way_end : Addresses → NamedPools → ℕ → List ℕ
way_end servers pools server = codes " " ++ server_text servers pools server ++ codes "\n"

-- by which way the operation takes the server
abbrev pub way_line : Addresses → NamedPools → ℕ → Op → List WayStep → List ℕ
way_line servers pools server op way = way_front (server_address servers server) op ++ steps_text way ++ way_end servers pools server

abbrev pub is_of : Which → ServerUse → Bool
is_of which.Read server_use = server_use.is_read
is_of which.Cleared server_use = server_use.is_cleared
is_of which.Left server_use = not server_use.is_cleared

-- a server on a line of its own, after the end of the line before
abbrev pub named_text : Addresses → NamedPools → ℕ → List ℕ
named_text servers pools server = codes "\n#   " ++ server_text servers pools server

-- a server on a line of its own, after the end of the line before, if this server is one of those that are named
abbrev pub member_text : Addresses → NamedPools → Bool → ℕ → List ℕ
member_text servers pools is_named server = if is_named then named_text servers pools server else []

abbrev pub members_text : Addresses → NamedPools → Which → List ServerUse → List ℕ
members_text servers pools w server_uses = flat_map (λ (x : ServerUse). member_text servers pools (is_of w x) x.server) server_uses

abbrev pub has_some : Which → List ServerUse → Bool
has_some w [] = false
has_some w (x ∷ xs) = is_of w x || has_some w xs

-- these servers, or that there is none
abbrev pub row_text : Addresses → NamedPools → Which → List ServerUse → List ℕ
row_text servers pools w server_uses = if has_some w server_uses then members_text servers pools w server_uses ++ codes "\n" else codes " none\n"

abbrev pub reads_line : Addresses → NamedPools → List ServerUse → List ℕ
reads_line servers pools server_uses = gap_phrase_text phrases.Reads ++ row_text servers pools which.Read server_uses

abbrev pub cleared_line : Addresses → NamedPools → Deleting → List ServerUse → List ℕ
cleared_line servers pools kind server_uses =
    codes "# a " ++ delete_name kind ++ codes " " ++ gap_phrase_text phrases.HasCleared ++ row_text servers pools which.Cleared server_uses

abbrev pub left_line : Addresses → NamedPools → List ServerUse → List ℕ
left_line servers pools server_uses = gap_phrase_text phrases.Left ++ row_text servers pools which.Left server_uses

abbrev pub server_use_lines : Addresses → NamedPools → Deleting → List ServerUse → List ℕ
server_use_lines servers pools kind server_uses =
    reads_line servers pools server_uses ++ cleared_line servers pools kind server_uses ++ left_line servers pools server_uses

-- the lines of an explanation
abbrev pub explanation_lines : Addresses → NamedPools → Op → ℕ → Deleting → Explanation → List ℕ
explanation_lines servers pools op server kind e = way_line servers pools server op e.way.items ++ server_use_lines servers pools kind e.server_uses.items
