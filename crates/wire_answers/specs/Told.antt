-- What the return tokens of a line say, as the fields of an answer.
use Rattle.std.specs.Prelude.{ℕ, false, List, Option, None}
use Rattle.mc_types.specs.declared.answer.Fields.{Fields}
use Rattle.wire_answers.specs.declared.meta.told.Told.{Told}

abbrev pub none_told : Told
none_told = record { cas = None; ttl = None; flags = None; size = None; key = false; opaque = false }

abbrev pub fields_told : Told → Option (List ℕ) → Fields
fields_told told body = record { body = body; cas = told.cas; flags = told.flags; size = told.size; ttl = told.ttl }
