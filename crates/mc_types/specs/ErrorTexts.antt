-- The texts of error lines. Source: mcgate's own texts, and memcached's protocol.txt, "Error strings".
use Rattle.std.specs.Prelude.{ℕ, List, codes}
use Rattle.mc_types.specs.declared.error_text.OwnText.{OwnText}
use Rattle.mc_types.specs.declared.error_text.OwnText.TheVariants.{CallFailed, ErrorRoute, OutOfMemory, TooLarge, NotNumeric}
use Rattle.mc_types.specs.declared.error_text.TextForm.{TextForm}
use Rattle.mc_types.specs.declared.error_text.TextForm.TheVariants.{Own, Passed}

-- what mcgate itself says
abbrev pub own_text : OwnText → List ℕ
own_text CallFailed = codes "call failed"
own_text ErrorRoute = codes "error route"
own_text OutOfMemory = codes "out of memory storing object"
own_text TooLarge = codes "object too large for cache"
own_text NotNumeric = codes "cannot increment or decrement non-numeric value"

-- the bytes of a text, whoever wrote it
abbrev pub text_of : TextForm → List ℕ
text_of (Own text) = own_text text
text_of (Passed text) = text
