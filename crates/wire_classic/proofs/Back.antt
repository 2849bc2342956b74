-- What was written is read back.
use Rattle.std.proofs.Common.{◌≡◌, ℕ, ◌≤◌, Bool, true, false, List, [], ◌∷◌, ◌++◌, length, Some, None, refl, subst, arith}
use Rattle.std.specs.Prelude.{codes, decimal}
use Rattle.text_words.specs.Spelling.{words_line}
use Rattle.text_words.proofs.Spaced.{literal}
use Rattle.mc_types.specs.Asks.{IsAsk, HasShape, HasShapeOf, shape_of, classic_shape}
use Rattle.mc_types.specs.declared.ask.Ask.{Ask}
use Rattle.mc_types.specs.declared.ask.Op.{Op}
use Rattle.mc_types.specs.declared.ask.Op.TheVariants.{Get, Gat, Set, Add, Replace, Append, Prepend, Cas, Delete, Incr, Decr, Touch}
use Rattle.mc_types.specs.declared.ask.Dialect.{Dialect}
use Rattle.mc_types.specs.declared.ask.Dialect.TheVariants.{Classic}
use Rattle.wire_parts.specs.Tests.{Word, block_text}
use Rattle.wire_parts.specs.Message.{Served}
use Rattle.wire_parts.proofs.Tokens.{IsToken, AreTokens, key_token, decimal_token, signed_token, begins_plain, begins_block}
use Rattle.wire_classic.specs.Message.{BeginsClassic}
use Rattle.wire_classic.specs.Grammar.{classic_grammar, classic_block_len}
use Rattle.wire_classic.specs.Spelling.{command_word, words_after, store_words, block_after, order_for, exptime_in, cas_in}
use Rattle.wire_parts.specs.Requests.{AsksAreReadBack}
use Rattle.wire_classic.specs.Laws.{classic_requests}
use Rattle.wire_classic.proofs.OrderBack.{IsFit, is_fit, order_back}

word_token : (op : Op) (with_cas : Bool) → IsToken (command_word op with_cas)
word_token Get false = record { plain = literal (codes "get") refl (omega arith); short = omega arith }
word_token Get true = record { plain = literal (codes "gets") refl (omega arith); short = omega arith }
word_token Gat false = record { plain = literal (codes "gat") refl (omega arith); short = omega arith }
word_token Gat true = record { plain = literal (codes "gats") refl (omega arith); short = omega arith }
word_token Set b = record { plain = literal (codes "set") refl (omega arith); short = omega arith }
word_token Add b = record { plain = literal (codes "add") refl (omega arith); short = omega arith }
word_token Replace b = record { plain = literal (codes "replace") refl (omega arith); short = omega arith }
word_token Append b = record { plain = literal (codes "append") refl (omega arith); short = omega arith }
word_token Prepend b = record { plain = literal (codes "prepend") refl (omega arith); short = omega arith }
word_token Cas b = record { plain = literal (codes "cas") refl (omega arith); short = omega arith }
word_token Delete b = record { plain = literal (codes "delete") refl (omega arith); short = omega arith }
word_token Incr b = record { plain = literal (codes "incr") refl (omega arith); short = omega arith }
word_token Decr b = record { plain = literal (codes "decr") refl (omega arith); short = omega arith }
word_token Touch b = record { plain = literal (codes "touch") refl (omega arith); short = omega arith }

store_tokens : (ask : Ask) (more : List Word) → IsFit ask → AreTokens more → AreTokens (store_words ask more)
store_tokens ask more f h =
    let flags = f.flags in
    let body = f.body in
    (key_token ask.key f.key, (decimal_token ask.flags (omega arith), (signed_token (exptime_in ask) f.exptime, (decimal_token (length ask.body) (omega arith), h))))

tokens_after : (op : Op) (ask : Ask) → IsFit ask → AreTokens (words_after op ask)
tokens_after Get ask f = (key_token ask.key f.key, tt)
tokens_after Gat ask f = (signed_token (exptime_in ask) f.exptime, (key_token ask.key f.key, tt))
tokens_after Set ask f = store_tokens ask [] f tt
tokens_after Add ask f = store_tokens ask [] f tt
tokens_after Replace ask f = store_tokens ask [] f tt
tokens_after Append ask f = store_tokens ask [] f tt
tokens_after Prepend ask f = store_tokens ask [] f tt
tokens_after Cas ask f = store_tokens ask (decimal (cas_in ask) ∷ []) f (decimal_token (cas_in ask) f.cas, tt)
tokens_after Delete ask f = (key_token ask.key f.key, tt)
tokens_after Incr ask f = (key_token ask.key f.key, (decimal_token ask.delta f.delta, tt))
tokens_after Decr ask f = (key_token ask.key f.key, (decimal_token ask.delta f.delta, tt))
tokens_after Touch ask f = (key_token ask.key f.key, (signed_token (exptime_in ask) f.exptime, tt))

few_after : (op : Op) (ask : Ask) → length (words_after op ask) ≤ 5
few_after Get ask = omega arith
few_after Gat ask = omega arith
few_after Set ask = omega arith
few_after Add ask = omega arith
few_after Replace ask = omega arith
few_after Append ask = omega arith
few_after Prepend ask = omega arith
few_after Cas ask = omega arith
few_after Delete ask = omega arith
few_after Incr ask = omega arith
few_after Decr ask = omega arith
few_after Touch ask = omega arith

module _ (ask : Ask) (more : List ℕ) (f : IsFit ask) where
  tokens : (op : Op) → AreTokens (command_word op ask.with_cas ∷ words_after op ask)
  tokens op = (word_token op ask.with_cas, tokens_after op ask f)

  few : (op : Op) → length (command_word op ask.with_cas ∷ words_after op ask) ≤ 20
  few op = let n = few_after op ask in omega arith

  plain : (op : Op) → classic_block_len (order_for op ask) ≡ None → BeginsClassic ((words_line (command_word op ask.with_cas ∷ words_after op ask) ++ []) ++ more) (Served (order_for op ask) []) (length (words_line (command_word op ask.with_cas ∷ words_after op ask) ++ []))
  plain op none = begins_plain classic_grammar (command_word op ask.with_cas ∷ words_after op ask) (order_for op ask) (tokens op) (few op) (order_back op ask f) more none

  blocked : (op : Op) → classic_block_len (order_for op ask) ≡ Some (length ask.body) → BeginsClassic ((words_line (command_word op ask.with_cas ∷ words_after op ask) ++ block_text ask.body) ++ more) (Served (order_for op ask) ask.body) (length (words_line (command_word op ask.with_cas ∷ words_after op ask) ++ block_text ask.body))
  blocked op long = begins_block classic_grammar (command_word op ask.with_cas ∷ words_after op ask) (order_for op ask) (tokens op) (few op) (order_back op ask f) ask.body more long

-- by the operation: an ask without data has an empty body
by_op : (ask : Ask) (more : List ℕ) (op : Op) → IsFit ask → HasShape ask (classic_shape op) → BeginsClassic ((words_line (command_word op ask.with_cas ∷ words_after op ask) ++ block_after op ask) ++ more) (Served (order_for op ask) ask.body) (length (words_line (command_word op ask.with_cas ∷ words_after op ask) ++ block_after op ask))
by_op ask more Get f h = rw (h.body) (plain ask more f Get refl)
by_op ask more Gat f h = rw (h.body) (plain ask more f Gat refl)
by_op ask more Set f h = blocked ask more f Set refl
by_op ask more Add f h = blocked ask more f Add refl
by_op ask more Replace f h = blocked ask more f Replace refl
by_op ask more Append f h = blocked ask more f Append refl
by_op ask more Prepend f h = blocked ask more f Prepend refl
by_op ask more Cas f h = blocked ask more f Cas refl
by_op ask more Delete f h = rw (h.body) (plain ask more f Delete refl)
by_op ask more Incr f h = rw (h.body) (plain ask more f Incr refl)
by_op ask more Decr f h = rw (h.body) (plain ask more f Decr refl)
by_op ask more Touch f h = rw (h.body) (plain ask more f Touch refl)

pub classic : (ask : Ask) → IsAsk ask → ask.dialect ≡ Classic → HasShape ask (classic_shape ask.op)
classic ask h is = subst (λ (d : Dialect). HasShapeOf ask (shape_of d ask.op)) is h.shape

pub asks_are_read_back : AsksAreReadBack classic_requests
asks_are_read_back ask more h = by_op ask more ask.op (is_fit ask h.well_formed) (classic ask h.well_formed h.classic)
