-- Which answers show a part of an item. Source: mcgate's own.
use Rattle.std.specs.Prelude.{Bool, true, false, is_some, ◌||◌}
use Rattle.mc_types.specs.declared.answer.Fields.{Fields}
use Rattle.mc_types.specs.declared.answer.Answer.{Answer}
use Rattle.mc_types.specs.declared.answer.Answer.TheVariants.{Stored, NotStored, Exists, NotFound, Deleted, Touched, Number, Hit, Miss, Meta, ClientError, Error, ServerError}

abbrev pub fields_show : Fields → Bool
fields_show f = is_some f.body || is_some f.flags || is_some f.size

-- data, a number, flags or a size is shown; a code alone, a cas number and the seconds left are not
abbrev pub shows : Answer → Bool
shows (Hit f b c) = true
shows (Number n) = true
shows (Meta code fields) = fields_show fields
shows Stored = false
shows NotStored = false
shows Exists = false
shows NotFound = false
shows Deleted = false
shows Touched = false
shows Miss = false
shows (ClientError t) = false
shows Error = false
shows (ServerError t) = false
