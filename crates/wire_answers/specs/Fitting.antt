-- What holds of the lines of meta answers, for every ask.
use Rattle.std.specs.Prelude.{List}
use Rattle.std.specs.List.{AllByRecursion}
use Rattle.mc_types.specs.Tokens.{TokenIsText}
use Rattle.mc_types.specs.OpaqueText.{IsOpaque}
use Rattle.mc_types.specs.declared.token.Token.{Token}
use Rattle.mc_types.specs.declared.token.Token.TheVariants as tokens

abbrev pub AreTexts : List Token → Type 0
AreTexts tokens = AllByRecursion TokenIsText tokens
