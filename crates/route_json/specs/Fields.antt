-- Which fields an object may have, and what stands in them. Source: mcgate's own, under mcrouter's names of routes.
use Rattle.route_json.specs.declared.fields.TheConstants.{MAX_EXPTIME}
use Rattle.std.specs.Prelude.{ℕ, List, [], ◌∷◌, codes, Option, Some, None, Result, Ok, Err, nat_le, if◌then◌else◌}
use Rattle.std.specs.List.{list_any}
use Rattle.std.specs.Str.{bytes_eq}
use Rattle.mc_types.specs.declared.ask.Op.{Op}
use Rattle.serde_json.specs.Data.{Data, unsigned, number, string, array, object, Items, Members}
use Rattle.route_json.specs.declared.names.holders.Holder.{Holder}
use Rattle.route_json.specs.Names.{fields_of}
use Rattle.route_json.specs.Fault.{Fault, BadField}
use Rattle.route_json.specs.Reading.{members}

-- the first name that is no field here is at fault
abbrev pub only_members : Holder → List (List ℕ × Data) → Result (Unit {0}) Fault
only_members holder [] = Ok tt
only_members holder (m ∷ ms) = if list_any (bytes_eq m.0) (fields_of holder) then only_members holder ms else Err (BadField m.0)

-- the first name of a value that is no field here is at fault, where the value is an object
abbrev pub only : Holder → Data → Result (Unit {0}) Fault
only holder (object ms) = only_members holder (members ms)
only holder _ = Ok tt

-- the value of a field that has to be there
abbrev pub value_or : List ℕ → Option Data → Result Data Fault
value_or name (Some d) = Ok d
value_or name None = Err (BadField name)

-- the text in a field
abbrev pub text_or : List ℕ → Option Data → Result (List ℕ) Fault
text_or name (Some (string text)) = Ok text
text_or name _ = Err (BadField name)

-- the list in a field
abbrev pub list_or : List ℕ → Option Data → Result Items Fault
list_or name (Some (array ds)) = Ok ds
list_or name _ = Err (BadField name)

-- the object in a field
abbrev pub object_or : List ℕ → Option Data → Result Members Fault
object_or name (Some (object ms)) = Ok ms
object_or name _ = Err (BadField name)

-- an exptime, where it is left out 0
abbrev pub exptime_or : Option Data → Result ℕ Fault
exptime_or None = Ok 0
exptime_or (Some (number (unsigned n))) = if nat_le n MAX_EXPTIME then Ok n else Err (BadField (codes "exptime"))
exptime_or _ = Err (BadField (codes "exptime"))

-- the operation of a policy
abbrev pub op_or : List ℕ → Option Op → Result Op Fault
op_or name (Some op) = Ok op
op_or name None = Err (BadField name)
