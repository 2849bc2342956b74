-- What is of another protocol than memcached's text: its binary protocol, which the first byte shows, and HTTP, which the end of a line shows. Source: memcached, which closes a client for both.
use Rattle.std.specs.Prelude.{◌≡◌, ◌⊎◌, ℕ, Bool, true, false, ◌&&◌, ◌||◌, List, [], ◌∷◌, Err, ◌==◌, nat_eq, codes}
use Rattle.std.specs.List.{ends_with}
use Rattle.text_words.specs.Line.{IsLine, without_cr}
use Rattle.text_words.specs.Word.{words}
use Rattle.wire_parts.specs.declared.refusal.RefusalReason.{RefusalReason}
use Rattle.wire_parts.specs.declared.refusal.RefusalReason.TheVariants.{Unknown, BadKey, BadNumber, FlagNotServed, FlagTwice, BadToken, TooLarge, BadChunk}
use Rattle.wire_stream.specs.Both.{order_of}

-- the first byte is that of a binary request, or of a binary response
abbrev pub is_binary : List ℕ → Bool
is_binary [] = false
is_binary (b ∷ bytes) = b == 128 || b == 129

-- the text ends as the first line of a request of HTTP does
abbrev pub ends_as_http : List ℕ → Bool
ends_as_http text = ends_with nat_eq text (codes " HTTP/1.0") || ends_with nat_eq text (codes " HTTP/1.1")

-- the bytes begin with a line that is no command, and ends as one of HTTP does
pub record IsHttp (bytes : List ℕ) : Type 0 where
  pub text : List ℕ
  pub rest : List ℕ
  pub line : IsLine bytes text rest
  pub unknown : order_of (words (without_cr text)) ≡ Err Unknown
  pub ends : ends_as_http (without_cr text) ≡ true

-- the bytes are of another protocol
abbrev pub IsOtherProtocol : List ℕ → Type 0
IsOtherProtocol bytes = (is_binary bytes ≡ true) ⊎ IsHttp bytes

-- they aren't, so far
abbrev pub IsText : List ℕ → Type 0
IsText bytes = ¬ IsOtherProtocol bytes

abbrev pub is_unknown : RefusalReason → Bool
is_unknown Unknown = true
is_unknown BadKey = false
is_unknown BadNumber = false
is_unknown FlagNotServed = false
is_unknown FlagTwice = false
is_unknown BadToken = false
is_unknown TooLarge = false
is_unknown BadChunk = false

-- a line of this text that is refused for this reason is one of HTTP
abbrev pub is_http : List ℕ → RefusalReason → Bool
is_http text why = is_unknown why && ends_as_http text
