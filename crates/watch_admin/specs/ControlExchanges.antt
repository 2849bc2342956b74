-- Where one who asks stands. Source: mcgate's own.
use Rattle.std.specs.Prelude.{◌≡◌, ℕ, ◌⊎◌, List, [], take, length}
use Rattle.text_words.specs.Line.{IsLineOf, IsOpen, IsTooLong, TakesLine}
use Rattle.watch_admin.specs.declared.control.exchange.Exchange.{Exchange}
use Rattle.watch_admin.specs.declared.control.exchange.Exchange.TheVariants.{Asking, Asked, Owed, Answering}

-- it stands there by these bytes, which it has sent: they hold no line yet, or it waits for what their first line asks for; one that is too long asks for nothing
abbrev pub ExchangeStands : List ℕ → Exchange → Type 0
ExchangeStands came (Asking held) = (held.items ≡ came) × IsOpen came
ExchangeStands came (Asked text) = ((end used : ℕ) × TakesLine came end used × (text.items ≡ take end came)) ⊎ (IsTooLong came × (text.items ≡ []))
ExchangeStands came Owed = ⊥
ExchangeStands came (Answering answering) = ⊥
