-- Which return flags stand among the tokens of an ask. Source: memcached's protocol.txt, "Meta Commands".
use Rattle.std.specs.Prelude.{true, List}
use Rattle.mc_types.specs.Tokens.{wants, LetterC, LetterF, LetterK, LetterS, LetterT, LetterV}
use Rattle.mc_types.specs.declared.token.Token.{Token}
use Rattle.mc_types.specs.declared.token.Token.TheVariants.{Cas, Flags, Key, Size, Ttl, Value, Opaque}
use Rattle.mc_types.specs.declared.wanted.Wanted.{Wanted}

-- each field says of its letter whether one of the tokens has it
abbrev pub wanted_of : List Token → Wanted
wanted_of tokens = record {
  cas = wants tokens LetterC;
  flags = wants tokens LetterF;
  key = wants tokens LetterK;
  size = wants tokens LetterS;
  ttl = wants tokens LetterT;
  value = wants tokens LetterV;
}

-- one token more
abbrev pub wanting : Wanted → Token → Wanted
wanting wanted Cas = record wanted { cas = true }
wanting wanted Flags = record wanted { flags = true }
wanting wanted Key = record wanted { key = true }
wanting wanted Size = record wanted { size = true }
wanting wanted Ttl = record wanted { ttl = true }
wanting wanted Value = record wanted { value = true }
wanting wanted (Opaque text) = wanted
