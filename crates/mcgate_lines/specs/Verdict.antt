-- The lines of a verdict. Source: mcgate's own.
use Rattle.std.specs.Prelude.{ℕ, List, [], ◌++◌, codes, decimal}
use Rattle.text_words.specs.Escapes.{escaped}
use Rattle.route_tree.specs.declared.place.Place.{Place}
use Rattle.route_tree.specs.Place.{prefix_text}
use Rattle.route_json.specs.Servers.{Addresses}
use Rattle.gate_gaps.specs.Names.{op_name, delete_name, server_address}
use Rattle.gate_check.specs.declared.gap.Gap.{Gap}
use Rattle.gate_check.specs.declared.gap.Reason.{Reason}
use Rattle.gate_check.specs.declared.gap.Reason.TheVariants as reasons

-- the line of an accepted tree: accepted places=N
abbrev pub accepted_line : ℕ → List ℕ
accepted_line places = codes "accepted places=" ++ decimal places ++ codes "\n"

-- server=A read=OP delete=D
abbrev pub ask_fields : (address read delete : List ℕ) → List ℕ
ask_fields address read delete = codes " server=" ++ escaped address ++ codes " read=" ++ read ++ codes " delete=" ++ delete

-- prefix=P residue=R/L, and the line's end
abbrev pub place_fields : Place → List ℕ
place_fields place = codes " prefix=" ++ escaped (prefix_text place.prefix) ++ codes " residue=" ++ decimal place.residue ++ codes "/" ++ decimal place.modulus ++ codes "\n"

-- the fields of a gap, and the line's end
abbrev pub gap_fields : Addresses → Gap → List ℕ
gap_fields servers gap = ask_fields (server_address servers gap.server) (op_name gap.op) (delete_name gap.deleting) ++ place_fields gap.place

-- the line of a gap
abbrev pub gap_line : Addresses → Gap → List ℕ
gap_line servers gap = codes "refused:" ++ gap_fields servers gap

-- the line of a refused tree; running out of memory has none
abbrev pub judged_line : Addresses → Reason → List ℕ
judged_line servers reasons.TooManyPlaces = codes "refused: too many places\n"
judged_line servers (reasons.BadCertificate row) = codes "refused: bad certificate row " ++ decimal row ++ codes "\n"
judged_line servers (reasons.Uncovered gap) = gap_line servers gap
judged_line servers reasons.NoMemory = []
