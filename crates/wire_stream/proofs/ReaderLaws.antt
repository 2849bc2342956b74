-- What a client's bytes say doesn't depend on the pieces that they come in.
use Rattle.std.proofs.Common.{◌≡◌, ℕ, List, [], ◌++◌, drop, refl, sym, ap, ◌∙◌, append_assoc}
use Rattle.std.proofs.lemmas.List.{drop-append-le}
use Rattle.text_words.proofs.Stays.{too_long_stays}
use Rattle.wire_parts.specs.declared.skip.Skip.TheVariants.{Nothing, Bytes, ThroughNewline}
use Rattle.wire_parts.specs.Stream.{Place, Stands, Closed, extended, skipped}
use Rattle.wire_stream.specs.Stream.{after_any}
use Rattle.wire_parts.proofs.Streams.{begins_still, one_message, used_within, after_message-append, too_long_begins_nothing}
use Rattle.wire_stream.specs.Both.{both_grammar}
use Rattle.wire_stream.proofs.OtherProtocols.{other_still, text_still, long_still}
use Rattle.wire_parts.proofs.Streams.{skipped-append}
use Rattle.wire_stream.specs.TextProtocol.{Said, Whole, LongLine, OtherProtocol, ReadsNext, TextIsReader}

-- a place has one next message at most
one_next : (place : Place) (m n : Said) (p q : Place) → ReadsNext place m p → ReadsNext place n q → (m ≡ n) × (p ≡ q)
one_next (Stands Nothing held) (Whole m) (Whole n) p q a b =
    let same = one_message both_grammar held m n a.0 b.0 a.1 b.1 in
    let next : after_any m (drop a.0 held) ≡ after_any n (drop b.0 held) = rw (same.0, same.1) refl in
    (ap Whole same.0, a.2 ∙ next ∙ sym b.2)
one_next (Stands Nothing held) (Whole m) LongLine p q a b = absurd (too_long_begins_nothing both_grammar held [] m a.0 b.0 (begins_still both_grammar held [] m a.0 a.1))
one_next (Stands Nothing held) LongLine (Whole n) p q a b = absurd (too_long_begins_nothing both_grammar held [] n b.0 a.0 (begins_still both_grammar held [] n b.0 b.1))
one_next (Stands Nothing held) LongLine LongLine p q a b = (refl, a.1 ∙ sym b.1)
one_next (Stands Nothing held) OtherProtocol OtherProtocol p q a b = (refl, a.1 ∙ sym b.1)
one_next (Stands Nothing held) (Whole m) OtherProtocol p q a b = absurd (a.3 b.0)
one_next (Stands Nothing held) OtherProtocol (Whole n) p q a b = absurd (b.3 a.0)
one_next (Stands Nothing held) LongLine OtherProtocol p q a b = absurd (a.2 b.0)
one_next (Stands Nothing held) OtherProtocol LongLine p q a b = absurd (b.2 a.0)
one_next (Stands (Bytes k) held) m n p q a b = absurd a
one_next (Stands ThroughNewline held) m n p q a b = absurd a
one_next Closed m n p q a b = absurd a

-- what is read stays read when more comes
next_stays : (place : Place) (m : Said) (p : Place) (more : List ℕ) → ReadsNext place m p → ReadsNext (extended place more) m (extended p more)
next_stays (Stands Nothing held) (Whole m) p more a =
    let within = used_within both_grammar held m a.0 a.1 in
    let next : after_any m (drop a.0 (held ++ more)) ≡ extended (after_any m (drop a.0 held)) more = ap (after_any m) (drop-append-le a.0 held more within) ∙ after_message-append both_grammar m (drop a.0 held) more in
    (a.0, begins_still both_grammar held more m a.0 a.1, ap (λ (q : Place). extended q more) a.2 ∙ sym next, text_still held more a.1.text a.1.rest a.1.line a.3)
next_stays (Stands Nothing held) LongLine p more a = (too_long_stays held more a.0, ap (λ (q : Place). extended q more) a.1, long_still held more a.0 a.2)
next_stays (Stands Nothing held) OtherProtocol p more a = (other_still held more a.0, ap (λ (q : Place). extended q more) a.1)
next_stays (Stands (Bytes k) held) m p more a = absurd a
next_stays (Stands ThroughNewline held) m p more a = absurd a
next_stays Closed m p more a = absurd a

-- two pieces are as good as one
fed_twice : (place : Place) (a b : List ℕ) → extended (extended place a) b ≡ extended place (a ++ b)
fed_twice (Stands skip held) a b = sym (skipped-append skip (held ++ a) b) ∙ ap (skipped skip) (append_assoc held a b)
fed_twice Closed a b = refl

pub reader_is : TextIsReader
reader_is = record { one_message = one_next; goes_on = next_stays; fed_append = fed_twice; fed_nothing = refl }
