-- What a run over TCP prints. Source: mcgate's own.
use Rattle.std.specs.Prelude.{ℕ, List, [], ◌++◌, codes, decimal, flat_map, slice_get, Option, Some, None}
use Rattle.script_events.specs.declared.script.Reload.{Reload}
use Rattle.script_events.specs.Scripted.{output_shown}
use Rattle.gate_check.specs.declared.reloading.ReloadFault.{ReloadFault}
use Rattle.script_events.specs.Printed.{shown_line}
use Rattle.mcgate_lines.specs.Reloads.{loaded_line, kept_line}
use Rattle.mcgate_loopback.specs.declared.ends.Counts.{Counts}
use Rattle.mcgate_loopback.specs.declared.entries.RunEntry.{RunEntry}
use Rattle.mcgate_loopback.specs.declared.entries.RunEntry.TheVariants as entries

-- the line of a reload that was refused, by the servers of its configuration
abbrev pub kept_line_of : Option Reload → ReloadFault → List ℕ
kept_line_of None fault = []
kept_line_of (Some reload) fault = kept_line reload.config.servers fault

-- the line of an entry of a script with these reloads
abbrev pub entry_line : List Reload → RunEntry → List ℕ
entry_line reloads (entries.Shown output) = shown_line (output_shown output)
entry_line reloads (entries.Loaded generation) = loaded_line generation
entry_line reloads (entries.Kept number fault) = kept_line_of (slice_get reloads number) fault

-- the lines of entries
abbrev pub entry_lines : List Reload → List RunEntry → List ℕ
entry_lines reloads shown = flat_map (entry_line reloads) shown

-- the last line: done N commands M calls
abbrev pub done_line : Counts → List ℕ
done_line c = codes "done " ++ decimal c.commands ++ codes " commands " ++ decimal c.calls ++ codes " calls\n"
