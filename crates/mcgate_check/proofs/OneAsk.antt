-- The commands of a refusal run are read as the asks that they are.
use Rattle.std.proofs.Common.{◌≡◌, ℕ, true, List, [], ◌∷◌, ◌++◌, length, drop, codes, refl, sym, ap, ◌∙◌, subst, arith, append-nil, append_assoc}
use Rattle.std.proofs.Math.Seq.{drop-length}
use Rattle.std.proofs.lemmas.Fmt.{decimal_digit}
use Rattle.text_words.specs.Spelling.{words_line}
use Rattle.mc_types.specs.declared.ask.Op.{Op}
use Rattle.mc_types.specs.declared.ask.Op.TheVariants.{Get, Gat, Set, Add, Replace, Append, Prepend, Cas, Delete, Incr, Decr, Touch}
use Rattle.mc_types.specs.declared.ask.Ask.{Ask}
use Rattle.mc_types.specs.declared.answer.Answer.{Answer}
use Rattle.mc_types.specs.KeyText.{IsKey}
use Rattle.fresh_runs.specs.Protocol.{IsStuck}
use Rattle.wire_parts.specs.declared.skip.Skip.TheVariants.{Nothing}
use Rattle.wire_parts.specs.Stream.{Stands}
use Rattle.wire_parts.proofs.Streams.{used_within}
use Rattle.wire_stream.specs.Both.{both_grammar}
use Rattle.wire_stream.specs.Message.{Begins}
use Rattle.wire_stream.specs.Stream.{after_any}
use Rattle.wire_stream.specs.Asks.{asks_of, IsClientAsk}
use Rattle.wire_stream.specs.Spelling.{spelling_of, message_of}
use Rattle.wire_stream.proofs.RequestLaws.{asks_are_read_back, messages_are_one_ask}
use Rattle.wire_stream.specs.Replies.{is_failure, is_last_ask, ends_with}
use Rattle.wire_stream.specs.TextProtocol.{Whole, LongLine, OtherProtocol, memcached_text}
use Rattle.wire_stream.proofs.Shorter.{takes_some}
use Rattle.wire_stream.proofs.OtherProtocols.{some_other, asking_text}
use Rattle.gate_coverage.specs.declared.deleting.Deleting.TheVariants as kinds
use Rattle.gate_coverage.specs.Cover.{IsTaking}
use Rattle.gate_coverage.proofs.Choices.{either_right}
use Rattle.gate_gaps.specs.Bait.{delete_of, read_of}
use Rattle.gate_gaps.proofs.Scripts.{IsOneAsk}
use Rattle.gate_gaps.proofs.Bait.{read_is, delete_is}
use Rattle.mcgate_check.specs.Commands.{read_text, delete_text}

pub quiet_start : IsStuck memcached_text (Stands Nothing [])
quiet_start (Whole message) next r = let some = takes_some [] message r.0 r.1 in let all = used_within both_grammar [] message r.0 r.1 in absurd (omega (arith, some, all))
quiet_start LongLine next r = absurd (omega (arith, r.0.long))
quiet_start OtherProtocol next r = absurd (omega (arith, some_other [] r.0))

module _ (ask : Ask) (text : List ℕ) (reply : Answer) (is : IsClientAsk ask) (spelled : spelling_of ask ≡ text) (stands : after_any (message_of ask) [] ≡ Stands Nothing []) where
  begins : Begins text (message_of ask) (length text)
  begins = subst (λ (t : List ℕ). Begins t (message_of ask) (length t)) spelled
      (subst (λ (t : List ℕ). Begins t (message_of ask) (length (spelling_of ask))) (append-nil (spelling_of ask)) (asks_are_read_back ask [] is))

  left : Stands Nothing [] ≡ after_any (message_of ask) (drop (length text) text)
  left = sym (ap (after_any (message_of ask)) (drop-length text) ∙ stands)

  alone : asks_of (message_of ask) ≡ ask ∷ []
  alone = (messages_are_one_ask ask is).0

  ends : ends_with (asks_of (message_of ask)) 0 reply ≡ true
  ends = subst (λ (l : List Ask). ends_with l 0 reply ≡ true) (sym alone) (either_right (is_failure reply) (is_last_ask (ask ∷ []) 0) refl)

  pub one_ask : IsOneAsk memcached_text (Stands Nothing []) text ask reply (Whole (message_of ask)) (Stands Nothing [])
  one_ask = record { reads = (length text, begins, left, asking_text text (message_of ask) (length text) begins (λ none. absurd (let e = sym alone ∙ none in cc))); asks = alone; ends = ends; stuck = quiet_start }

delete_spelled : (key : List ℕ) → spelling_of (delete_of kinds.Delete key) ≡ delete_text key
delete_spelled key = append-nil (delete_text key)

pub one_delete : (key : List ℕ) (reply : Answer) → IsKey key → IsOneAsk memcached_text (Stands Nothing []) (delete_text key) (delete_of kinds.Delete key) reply (Whole (message_of (delete_of kinds.Delete key))) (Stands Nothing [])
one_delete key reply k = one_ask (delete_of kinds.Delete key) (delete_text key) reply (record { well_formed = delete_is kinds.Delete key k; texts = tt }) (delete_spelled key) refl

read_spelled : (op : Op) (key : List ℕ) → IsTaking op → spelling_of (read_of op key) ≡ read_text op key
read_spelled Get key t = append-nil (read_text Get key)
read_spelled Gat key t = ap (λ d. words_line (codes "gat" ∷ d ∷ key ∷ []) ++ []) (decimal_digit 0 (omega arith)) ∙ append-nil (read_text Gat key)
read_spelled Incr key t = ap (λ d. words_line (codes "incr" ∷ key ∷ d ∷ []) ++ []) (decimal_digit 1 (omega arith)) ∙ append-nil (words_line (codes "incr" ∷ key ∷ codes "1" ∷ [])) ∙ ap (λ l. codes "incr " ++ l) (append_assoc key (codes " 1") (codes "\r\n"))
read_spelled Decr key t = ap (λ d. words_line (codes "decr" ∷ key ∷ d ∷ []) ++ []) (decimal_digit 1 (omega arith)) ∙ append-nil (words_line (codes "decr" ∷ key ∷ codes "1" ∷ [])) ∙ ap (λ l. codes "decr " ++ l) (append_assoc key (codes " 1") (codes "\r\n"))
read_spelled Set key t = absurd t
read_spelled Add key t = absurd t
read_spelled Replace key t = absurd t
read_spelled Append key t = absurd t
read_spelled Prepend key t = absurd t
read_spelled Cas key t = absurd t
read_spelled Delete key t = absurd t
read_spelled Touch key t = absurd t

stands_read : (op : Op) (key : List ℕ) → IsTaking op → after_any (message_of (read_of op key)) [] ≡ Stands Nothing []
stands_read Get key t = refl
stands_read Gat key t = refl
stands_read Incr key t = refl
stands_read Decr key t = refl
stands_read Set key t = absurd t
stands_read Add key t = absurd t
stands_read Replace key t = absurd t
stands_read Append key t = absurd t
stands_read Prepend key t = absurd t
stands_read Cas key t = absurd t
stands_read Delete key t = absurd t
stands_read Touch key t = absurd t

pub one_read : (op : Op) (key : List ℕ) (reply : Answer) → IsTaking op → IsKey key → IsOneAsk memcached_text (Stands Nothing []) (read_text op key) (read_of op key) reply (Whole (message_of (read_of op key))) (Stands Nothing [])
one_read op key reply t k = one_ask (read_of op key) (read_text op key) reply (record { well_formed = (read_is op key t k).is; texts = tt }) (read_spelled op key t) (stands_read op key t)
