-- Messages that are served after others.
use Rattle.std.proofs.Common.{◌≡◌, ℕ, ℤ, List, [], ◌∷◌, ◌++◌, refl, sym, ap, ap₂, ◌∙◌, subst, map, append_assoc, append-nil}
use Rattle.std.proofs.lemmas.List.{map-append}
use Rattle.fresh_runs.specs.Protocol.{Goes}
use Rattle.fresh_runs.specs.Stream.{Done, AreWhole, IsWhole, written, written_all}
use Rattle.wire_parts.specs.Stream.{Place, extended}
use Rattle.wire_stream.specs.TextProtocol.{Said, memcached_text, ReadsNext}
use Rattle.wire_stream.proofs.ReaderLaws.{reader_is}
use Rattle.wire_stream.specs.Version.{default_version}
use Rattle.cache_server.specs.Contents.{Contents}
use Rattle.cache_tcp.specs.ConnectionServing.{AnswersEach, ServesEach, ServesTo}
use Rattle.cache_theory.specs.Laws.{PiecesAreOne}

abbrev pub messages : List (Done memcached_text) → List Said
messages done = map (λ (d : Done memcached_text). d.message) done

goes_after : (a b c : Place) (ms ns : List Said) → Goes memcached_text a ms b → Goes memcached_text b ns c → Goes memcached_text a (ms ++ ns) c
goes_after a b c [] ns g h = subst (λ (p : Place). Goes memcached_text p ns c) (sym g) h
goes_after a b c (m ∷ ms) ns g h = (g.0, g.1, goes_after g.0 b c ms ns g.2 h)

-- what was read stays read when more comes
goes_still : (a b : Place) (ms : List Said) (more : List ℕ) → Goes memcached_text a ms b → Goes memcached_text (extended a more) ms (extended b more)
goes_still a b [] more g = ap (λ (p : Place). extended p more) g
goes_still a b (m ∷ ms) more g = (extended g.0 more, reader_is.goes_on a m g.0 more g.1, goes_still g.0 b ms more g.2)

served_after : (moment : ℤ) (a b c : Contents) (ds es : List (Done memcached_text)) → ServesEach moment a ds b → ServesEach moment b es c → ServesEach moment a (ds ++ es) c
served_after moment a b c [] es s t = subst (λ (p : Contents). ServesEach moment p es c) (sym s) t
served_after moment a b c (d ∷ ds) es s t = (s.0, s.1, served_after moment s.0 b c ds es s.2 t)

whole_after : (ds es : List (Done memcached_text)) → AreWhole memcached_text ds → AreWhole memcached_text es → AreWhole memcached_text (ds ++ es)
whole_after [] es a b = b
whole_after (d ∷ ds) es a b = (a.0, whole_after ds es a.1 b)

written_after : (ds es : List (Done memcached_text)) → written_all memcached_text default_version (ds ++ es) ≡ written_all memcached_text default_version ds ++ written_all memcached_text default_version es
written_after [] es = refl
written_after (d ∷ ds) es =
    ap (λ (l : List ℕ). written memcached_text default_version d.message d.replies ++ l) (written_after ds es) ∙ sym (append_assoc (written memcached_text default_version d.message d.replies) (written_all memcached_text default_version ds) (written_all memcached_text default_version es))

-- messages, and then others
pub serves_after : (moment : ℤ) (p q r : Place) (c d e : Contents) (s t : List ℕ) → ServesTo moment p c s q d → ServesTo moment q d t r e → ServesTo moment p c (s ++ t) r e
serves_after moment p q r c d e s t a b =
    record {
      done = a.done ++ b.done;
      goes = subst (λ (ms : List Said). Goes memcached_text p ms r) (sym (map-append (λ (x : Done memcached_text). x.message) a.done b.done)) (goes_after p q r (messages a.done) (messages b.done) a.goes b.goes);
      whole = whole_after a.done b.done a.whole b.whole;
      served = served_after moment c d e a.done b.done a.served b.served;
      text_is = ap₂ (λ (l m : List ℕ). l ++ m) a.text_is b.text_is ∙ sym (written_after a.done b.done);
    }

pub serves_nothing : (moment : ℤ) (p : Place) (c : Contents) → ServesTo moment p c [] p c
serves_nothing moment p c = record { done = []; goes = refl; whole = tt; served = refl; text_is = refl }

-- one message with its replies
pub serves_one : (moment : ℤ) (p q : Place) (c d : Contents) (x : Done memcached_text) → ReadsNext p x.message q → IsWhole memcached_text x.message x.replies → AnswersEach moment (memcached_text.asks_of x.message) c x.replies d → ServesTo moment p c (written memcached_text default_version x.message x.replies) q d
serves_one moment p q c d x reads is answered =
    record { done = x ∷ []; goes = (q, reads, refl); whole = (is, tt); served = (d, answered, refl); text_is = sym (append-nil (written memcached_text default_version x.message x.replies)) }

serves_still : (moment : ℤ) (p q : Place) (c d : Contents) (s more : List ℕ) → ServesTo moment p c s q d → ServesTo moment (extended p more) c s (extended q more) d
serves_still moment p q c d s more a =
    record { done = a.done; goes = goes_still p q (messages a.done) more a.goes; whole = a.whole; served = a.served; text_is = a.text_is }

pub pieces : PiecesAreOne
pieces moment place between next a b old middle new s t first second =
    record {
      serves = subst (λ (p : Place). ServesTo moment p old (s ++ t) next new) (reader_is.fed_append place a b)
          (serves_after moment (extended (extended place a) b) (extended between b) next old middle new s t (serves_still moment (extended place a) between old middle s b first.serves) second.serves);
      stuck = second.stuck;
    }
