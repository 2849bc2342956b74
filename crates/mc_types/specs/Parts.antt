-- The ask of its parts. Source: mcgate's own.
use Rattle.mc_types.specs.declared.ask.Ask.{Ask}
use Rattle.mc_types.specs.declared.ask_parts.AskParts.{AskParts}

-- the key is the text that the parts show, all else is the same
abbrev pub ask_of : AskParts → Ask
ask_of p = record { key = p.key.now; op = p.op; dialect = p.dialect; with_cas = p.with_cas; flags = p.flags; exptime = p.exptime; body = p.body; cas = p.cas; delta = p.delta; tokens = p.tokens }
