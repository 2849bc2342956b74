-- What is of another protocol stays so, and what is served is not.
use Rattle.std.proofs.Common.{◌≡◌, ℕ, zero, suc, ◌+◌, ◌-◌, ◌≤◌, Bool, true, false, cond, eqb, List, [], ◌∷◌, ◌++◌, length, take, drop, Option, Some, None, Result, Ok, Err, inl, inr, refl, sym, ap, ◌∙◌, subst, arith}
use Rattle.std.specs.Prelude.{filter, slice_index}
use Rattle.std.specs.List.{slice_split, onto_first}
use Rattle.std.proofs.lemmas.Bool.{eqb-true}
use Rattle.std.proofs.lemmas.List.{length-append}
use Rattle.text_words.specs.Line.{IsLine, IsOpen, IsTooLong, LF, CR, without_cr}
use Rattle.text_words.specs.Word.{words, is_filled, is_space}
use Rattle.text_words.proofs.Stays.{lines_stay, lines_are_determined, open_no_line, not_too_long, too_long_no_line}
use Rattle.wire_parts.specs.declared.refusal.RefusalReason.{RefusalReason}
use Rattle.wire_parts.specs.declared.refusal.RefusalReason.TheVariants.{Unknown, BadKey, BadNumber, FlagNotServed, FlagTwice, BadToken, TooLarge, BadChunk}
use Rattle.wire_parts.specs.declared.skip.Skip.{Skip}
use Rattle.wire_parts.specs.declared.skip.Skip.TheVariants.{ThroughNewline}
use Rattle.wire_parts.specs.declared.block.End.{End}
use Rattle.wire_parts.specs.declared.block.End.TheVariants.{Open, Good, Bad}
use Rattle.wire_parts.specs.Tests.{Word}
use Rattle.wire_parts.specs.Message.{Served, Refusal, meaning_of, with_rest, with_block, data_block_end}
use Rattle.wire_classic.specs.CommandWords as text_words
use Rattle.wire_stream.specs.Both.{AnyOrder, both_grammar, order_of, skip_of}
use Rattle.wire_stream.specs.Message.{AnyMessage, Begins}
use Rattle.wire_stream.specs.Asks.{asks_of}
use Rattle.wire_stream.specs.OtherProtocol.{is_binary, ends_as_http, IsHttp, IsOtherProtocol, IsText, is_http}

abbrev found_as : AnyMessage → ℕ → Option (AnyMessage × ℕ)
found_as message n = Some (message, n)

some_is : {A : Type 0} (x y : A) → Some x ≡ Some y → x ≡ y
some_is x y e = cc

-- what was found as two messages is one
same_found : (one other : AnyMessage) (m n : ℕ) → found_as one m ≡ found_as other n → one ≡ other
same_found one other m n e = ap (λ x. x.0) (some_is (one, m) (other, n) e)

not_served : (why : RefusalReason) (skip : Skip) (order : AnyOrder) (block : List ℕ) → Served order block ≡ Refusal why skip → ⊥
not_served why skip order block e = cc

other_reason : (skip passed : Skip) → ◌≡◌ {A = AnyMessage} (Refusal BadChunk skip) (Refusal Unknown passed) → ⊥
other_reason skip passed e = cc

-- what is refused is refused for one reason
pub same_reason : (v w : RefusalReason) (s t : Skip) (m n : ℕ) → found_as (Refusal v s) m ≡ found_as (Refusal w t) n → v ≡ w
same_reason v w s t m n e = reason (same_found (Refusal v s) (Refusal w t) m n e)
  where
    reason : ◌≡◌ {A = AnyMessage} (Refusal v s) (Refusal w t) → v ≡ w
    reason e = cc

-- a line that is refused as no command is none
pub refused_order : (r : Result AnyOrder RefusalReason) (skip : Skip) (used : ℕ) (rest : List ℕ) (passed : Skip) (n : ℕ) → meaning_of both_grammar r skip used rest ≡ Some (Refusal Unknown passed, n) → r ≡ Err Unknown
refused_order (Err why) skip used rest passed n e = ap (λ w. Err w) (same_reason why Unknown skip passed used n e)
refused_order (Ok order) skip used rest passed n e = absurd (by_len (both_grammar.block_len order) e)
  where
    by_end : (block : List ℕ) (end : End) → with_block order used block end ≡ Some (Refusal Unknown passed, n) → ⊥
    by_end block Open e = cc
    by_end block Good e = not_served Unknown passed order block (same_found (Served order block) (Refusal Unknown passed) _ n e)
    by_end block Bad e = other_reason ThroughNewline passed (same_found (Refusal BadChunk ThroughNewline) (Refusal Unknown passed) _ n e)

    by_len : (len : Option ℕ) → with_rest order used rest len ≡ Some (Refusal Unknown passed, n) → ⊥
    by_len None e = not_served Unknown passed order [] (same_found (Served order []) (Refusal Unknown passed) used n e)
    by_len (Some len) e = by_end (take len rest) (data_block_end (drop len rest)) e

-- a line that is none is refused so
pub order_refused : (r : Result AnyOrder RefusalReason) (skip : Skip) (used : ℕ) (rest : List ℕ) → r ≡ Err Unknown → meaning_of both_grammar r skip used rest ≡ Some (Refusal Unknown skip, used)
order_refused r skip used rest e = ap (λ (o : Result AnyOrder RefusalReason). meaning_of both_grammar o skip used rest) e

http_still : (bytes more : List ℕ) → IsHttp bytes → IsHttp (bytes ++ more)
http_still bytes more h = record { text = h.text; rest = h.rest ++ more; line = lines_stay bytes h.text h.rest more h.line; unknown = h.unknown; ends = h.ends }

-- the line of another protocol is the first line
pub http_line : (bytes text rest : List ℕ) → IsLine bytes text rest → (h : IsHttp bytes) → h.text ≡ text
http_line bytes text rest line h = (lines_are_determined bytes h.text text h.rest rest h.line line).0

http_before : (bytes more text rest : List ℕ) → IsLine bytes text rest → IsHttp (bytes ++ more) → IsHttp bytes
http_before bytes more text rest line h =
    let same : h.text ≡ text = http_line (bytes ++ more) text (rest ++ more) (lines_stay bytes text rest more line) h in
    record { text = text; rest = rest; line = line; unknown = ap (λ t. order_of (words (without_cr t))) (sym same) ∙ h.unknown; ends = ap (λ t. ends_as_http (without_cr t)) (sym same) ∙ h.ends }

binary_still : (bytes more : List ℕ) → is_binary bytes ≡ true → is_binary (bytes ++ more) ≡ true
binary_still [] more e = absurd cc
binary_still (b ∷ bytes) more e = e

binary_before : (bytes more : List ℕ) → 1 ≤ length bytes → is_binary (bytes ++ more) ≡ true → is_binary bytes ≡ true
binary_before [] more some e = absurd (omega (arith, some))
binary_before (b ∷ bytes) more some e = e

-- another protocol has a byte at least
pub some_other : (bytes : List ℕ) → IsOtherProtocol bytes → 1 ≤ length bytes
some_other [] (inl e) = absurd cc
some_other (b ∷ bytes) (inl e) = omega arith
some_other bytes (inr h) = omega (arith, ap length h.line.whole, length-append h.text (LF ∷ h.rest))

-- what is of another protocol stays so when more comes
pub other_still : (bytes more : List ℕ) → IsOtherProtocol bytes → IsOtherProtocol (bytes ++ more)
other_still bytes more (inl e) = inl (binary_still bytes more e)
other_still bytes more (inr h) = inr (http_still bytes more h)

-- where a line is whole, what is text stays text
pub text_still : (bytes more text rest : List ℕ) → IsLine bytes text rest → IsText bytes → IsText (bytes ++ more)
text_still bytes more text rest line is (inl e) = is (inl (binary_before bytes more (omega (arith, ap length line.whole, length-append text (LF ∷ rest))) e))
text_still bytes more text rest line is (inr h) = is (inr (http_before bytes more text rest line h))

-- and so does a line that is too long
pub long_still : (bytes more : List ℕ) → IsTooLong bytes → IsText bytes → IsText (bytes ++ more)
long_still bytes more long is (inl e) = is (inl (binary_before bytes more (let l = long.long in omega (arith, l)) e))
long_still bytes more long is (inr h) = too_long_no_line bytes more h.text h.rest long h.line

-- what doesn't begin a binary message is text, as long as no line is whole
pub open_text : (bytes : List ℕ) → is_binary bytes ≡ false → IsOpen bytes → IsText bytes
open_text bytes is_not partial (inl e) = cc
open_text bytes is_not partial (inr h) = open_no_line bytes h.text h.rest partial h.line

pub long_text : (bytes : List ℕ) → is_binary bytes ≡ false → IsTooLong bytes → IsText bytes
long_text bytes is_not long (inl e) = cc
long_text bytes is_not long (inr h) = not_too_long bytes h.text h.rest h.line long

-- a line that begins with a byte of the binary protocol is no command
on_request : (parts : List Word) → order_of (filter is_filled (onto_first 128 parts)) ≡ Err Unknown
unfolding text_words.verb_of
on_request [] = refl
on_request (w ∷ ws) = refl

on_response : (parts : List Word) → order_of (filter is_filled (onto_first 129 parts)) ≡ Err Unknown
unfolding text_words.verb_of
on_response [] = refl
on_response (w ∷ ws) = refl

cut_first : (n x : ℕ) (xs : List ℕ) → eqb x CR ≡ false → (ys : List ℕ) × (cond (eqb (slice_index (x ∷ xs) n) CR) (take n (x ∷ xs)) (x ∷ xs) ≡ x ∷ ys)
cut_first zero x xs other = (xs, rw other refl)
cut_first (suc n) x xs other = (elim (eqb (slice_index xs n) CR) as (λ t. (ys : List ℕ) × (cond t (take (suc n) (x ∷ xs)) (x ∷ xs) ≡ x ∷ ys)) [
  | true ↦ (take n xs, refl)
  | false ↦ (xs, refl)
])

first_stays : (x : ℕ) (xs : List ℕ) → eqb x CR ≡ false → (ys : List ℕ) × (without_cr (x ∷ xs) ≡ x ∷ ys)
first_stays x xs other = cut_first (length (x ∷ xs) - 1) x xs other

request_unknown : (xs : List ℕ) → order_of (words (without_cr (128 ∷ xs))) ≡ Err Unknown
request_unknown xs = let f = first_stays 128 xs refl in ap (λ t. order_of (words t)) f.1 ∙ on_request (slice_split is_space f.0)

response_unknown : (xs : List ℕ) → order_of (words (without_cr (129 ∷ xs))) ≡ Err Unknown
response_unknown xs = let f = first_stays 129 xs refl in ap (λ t. order_of (words t)) f.1 ∙ on_response (slice_split is_space f.0)

binary_unknown : (text rest : List ℕ) → is_binary (text ++ LF ∷ rest) ≡ true → order_of (words (without_cr text)) ≡ Err Unknown
binary_unknown [] rest e = absurd cc
binary_unknown (x ∷ xs) rest e = (elim (eqb x 128) as (λ t. eqb x 128 ≡ t → order_of (words (without_cr (x ∷ xs))) ≡ Err Unknown) [
  | true ↦ λ h. subst (λ y. order_of (words (without_cr (y ∷ xs))) ≡ Err Unknown) (sym (eqb-true x 128 h)) (request_unknown xs)
  | false ↦ λ h. subst (λ y. order_of (words (without_cr (y ∷ xs))) ≡ Err Unknown) (sym (eqb-true x 129 (rw h at e))) (response_unknown xs)
]) refl

serves_none : (bytes : List ℕ) (order : AnyOrder) (block : List ℕ) (used : ℕ) → (b : Begins bytes (Served order block) used) → order_of (words (without_cr b.text)) ≡ Err Unknown → ⊥
serves_none bytes order block used b e =
    let line = words (without_cr b.text) in
    let refused = order_refused (order_of line) (skip_of line) (length b.text + 1) b.rest e in
    not_served Unknown (skip_of line) order block (same_found (Served order block) (Refusal Unknown (skip_of line)) used (length b.text + 1) (sym b.says ∙ refused))

-- what is served is text
pub served_text : (bytes : List ℕ) (order : AnyOrder) (block : List ℕ) (used : ℕ) → Begins bytes (Served order block) used → IsText bytes
served_text bytes order block used b (inl e) = serves_none bytes order block used b (binary_unknown b.text b.rest (subst (λ l. is_binary l ≡ true) b.line.whole e))
served_text bytes order block used b (inr h) = serves_none bytes order block used b (ap (λ t. order_of (words (without_cr t))) (sym (http_line bytes b.text b.rest b.line h)) ∙ h.unknown)

-- what asks a server is text
pub asking_text : (bytes : List ℕ) (message : AnyMessage) (used : ℕ) → Begins bytes message used → (asks_of message ≡ [] → ⊥) → IsText bytes
asking_text bytes (Served order block) used b some = served_text bytes order block used b
asking_text bytes (Refusal why skip) used b some = absurd (some refl)

-- a line that is refused is one of HTTP, or not
pub http_text : (text : List ℕ) (why : RefusalReason) → is_http text why ≡ true → (why ≡ Unknown) × (ends_as_http text ≡ true)
http_text text Unknown e = (refl, e)
http_text text BadKey e = absurd cc
http_text text BadNumber e = absurd cc
http_text text FlagNotServed e = absurd cc
http_text text FlagTwice e = absurd cc
http_text text BadToken e = absurd cc
http_text text TooLarge e = absurd cc
http_text text BadChunk e = absurd cc
