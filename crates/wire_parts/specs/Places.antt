-- What a span, and what was read by spans, stand for.
use Rattle.std.specs.Prelude.{◌≡◌, ℕ, ◌≤◌, Result, Ok, Err}
use Rattle.text_words.specs.declared.word.Span.{Span}
use Rattle.wire_parts.specs.declared.refusal.RefusalReason.{RefusalReason}

-- the span lies in so many bytes
pub record SpanIsIn (n : ℕ) (s : Span) : Type 0 where
  pub ordered : s.start ≤ s.end
  pub within : s.end ≤ n

-- what was returned, seen by view, is what the words say
abbrev pub Gives : {X Y : Type 0} → (X → Y) → Result X RefusalReason → Result Y RefusalReason → Type 0
Gives view (Ok x) read = read ≡ Ok (view x)
Gives view (Err e) read = read ≡ Err e
