-- What is kept of a meta form from one get to the next. Source: mcgate's own.
use Rattle.std.specs.Prelude.{◌≡◌, Bool, true, false, Option, IfSome}
use Rattle.mc_types.specs.declared.ask.Ask.{Ask}
use Rattle.wire_meta.specs.Asks.{meta_bare_ask}
use Rattle.wire_stream.specs.Form.{wanted}

-- the form of some get, with the cas number or without it
abbrev pub IsFormFor : Bool → Ask → Type 0
IsFormFor with_cas form = form ≡ record (meta_bare_ask form.op form.key (wanted with_cas)) { exptime = form.exptime }

-- what is kept is the form of some get, with the cas number or without it, if anything is
abbrev pub IsKeptFor : Bool → Option Ask → Type 0
IsKeptFor with_cas kept = IfSome kept (IsFormFor with_cas)

-- one form for gets without the cas number, and one for gets with it
abbrev pub FormsAreKept : Option Ask → Option Ask → Type 0
FormsAreKept get gets = IsKeptFor false get × IsKeptFor true gets
