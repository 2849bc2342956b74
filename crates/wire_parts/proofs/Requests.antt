-- What was read by places stays read, and the laws of requests.
use Rattle.std.proofs.Common.{◌≡◌, ℕ, ◌-◌, List, ◌++◌, length, take, drop, Option, Ok, refl, sym, ap, subst, ◌∙◌, arith}
use Rattle.std.proofs.lemmas.List.{length-append, take_at}
use Rattle.text_words.specs.Line.{TakesLine, without_cr}
use Rattle.text_words.specs.Word.{words, text_at}
use Rattle.text_words.specs.declared.word.Span.{Span}
use Rattle.wire_parts.specs.Places.{SpanIsIn}
use Rattle.wire_parts.specs.Grammar.{Grammar}
use Rattle.wire_parts.specs.Message.{Found, with_rest, meaning, lift_found}
use Rattle.wire_parts.specs.Requests.{Requests, ReadStill, AsksAreWellFormed, AsksAreReadBack, MessagesAreOneAsk, HasLaws}
use Rattle.wire_parts.proofs.Fronts.{text_at-take, line_text, rest_lifted}
use Rattle.wire_parts.proofs.Streams.{begins_still, one_message, too_long_begins_nothing, goes_on, goes_further, one_splitting}

-- the front of joined bytes
front_is : (bytes more : List ℕ) → take (length bytes) (bytes ++ more) ≡ bytes
front_is bytes more = take_at bytes more (length bytes) refl

pub IsIn-still : (bytes more : List ℕ) (s : Span) → SpanIsIn (length bytes) s → SpanIsIn (length (bytes ++ more)) s
IsIn-still bytes more s h = record { ordered = h.ordered; within = let a = h.within in omega (arith, length-append bytes more) }

pub text_at-still : (bytes more : List ℕ) (s : Span) → SpanIsIn (length bytes) s → text_at (bytes ++ more) s ≡ text_at bytes s
text_at-still bytes more s h = sym (text_at-take (length bytes) (bytes ++ more) s h.within) ∙ ap (λ (t : List ℕ). text_at t s) (front_is bytes more)

module _ {C : Type 0} (LiesIn : List ℕ → C → Type 0) where
  lies_front : (bytes more : List ℕ) (command : C) → LiesIn bytes command → LiesIn (take (length bytes) (bytes ++ more)) command
  lies_front bytes more command h = subst (λ (t : List ℕ). LiesIn t command) (sym (front_is bytes more)) h

  pub LiesIn-still : ((n : ℕ) (bytes : List ℕ) (command : C) → LiesIn (take n bytes) command → LiesIn bytes command) → (bytes more : List ℕ) (command : C) → LiesIn bytes command → LiesIn (bytes ++ more) command
  LiesIn-still LiesIn-take bytes more command h = LiesIn-take (length bytes) (bytes ++ more) command (lies_front bytes more command h)

module _ (G : Grammar) {C : Type 0} (order_in : List ℕ → C → G.Order) (LiesIn : List ℕ → C → Type 0) (order_in-take : (n : ℕ) (bytes : List ℕ) (command : C) → LiesIn (take n bytes) command → order_in (take n bytes) command ≡ order_in bytes command) where
  -- a line that asks something means that, with what follows it
  pub meaning-asked : (bytes : List ℕ) (end used : ℕ) (command : C) (n : Option ℕ) (found : Found (Unit {0})) → TakesLine bytes end used → LiesIn (take end bytes) command → G.order_of (words (take end bytes)) ≡ Ok (order_in (take end bytes) command) → n ≡ G.block_len (order_in bytes command)
      → with_rest tt used (drop used bytes) n ≡ found → meaning G (take (used - 1) bytes) (drop used bytes) ≡ lift_found (λ all. order_in bytes command) found
  meaning-asked bytes end used command n found line within asked len rest =
      let text = line_text bytes end used line in
      let long = text.1 in
      let order : G.order_of (words (without_cr (take (used - 1) bytes))) ≡ Ok (order_in bytes command) = ap (λ (t : List ℕ). G.order_of (words t)) text.0 ∙ asked ∙ ap (λ o. Ok o) (order_in-take end bytes command within) in
      let lifted = rest_lifted (λ all. order_in bytes command) tt used (drop used bytes) n in
      rw (order, long, ← len) (lifted ∙ ap (lift_found (λ all. order_in bytes command)) rest)

  pub order_in-still : (bytes more : List ℕ) (command : C) → LiesIn bytes command → order_in (bytes ++ more) command ≡ order_in bytes command
  order_in-still bytes more command h = sym (order_in-take (length bytes) (bytes ++ more) command (lies_front LiesIn bytes more command h)) ∙ ap (λ (t : List ℕ). order_in t command) (front_is bytes more)

pub has_laws : (R : Requests) → ReadStill R → AsksAreWellFormed R → AsksAreReadBack R → MessagesAreOneAsk R → HasLaws R
has_laws R read well back one = record {
  begins_still = begins_still R.grammar;
  one_message = one_message R.grammar;
  too_long_begins_nothing = too_long_begins_nothing R.grammar;
  goes_on = goes_on R.grammar;
  goes_further = goes_further R.grammar;
  one_splitting = one_splitting R.grammar;
  read_still = read;
  asks_are_well_formed = well;
  asks_are_read_back = back;
  messages_are_one_ask = one;
}
