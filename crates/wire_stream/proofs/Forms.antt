-- The meta form of an ask that a client can write is one too, and is read as it was meant.
use Rattle.std.proofs.Common.{◌≡◌, true, false, Bool, List, [], ◌∷◌, ◌++◌, length, None, refl, sym, ap, ◌∙◌, subst, append_assoc, append-nil, ℕ, arith}
use Rattle.std.specs.Prelude.{codes}
use Rattle.text_words.specs.Spelling.{spaced, words_line}
use Rattle.mc_types.specs.Tokens.{are_served}
use Rattle.mc_types.specs.Asks.{AreInRange, IsAsk, HasShapeOf, shape_of, of_get}
use Rattle.mc_types.specs.declared.ask.Op.{Op}
use Rattle.mc_types.specs.declared.ask.Op.TheVariants.{Get, Gat, Set, Add, Replace, Append, Prepend, Cas, Delete, Incr, Decr, Touch}
use Rattle.mc_types.specs.declared.ask.Dialect.{Dialect}
use Rattle.mc_types.specs.declared.ask.Dialect.TheVariants.{Classic, Meta}
use Rattle.mc_types.specs.declared.ask.Ask.{Ask}
use Rattle.wire_answers.specs.Fitting.{AreTexts}
use Rattle.wire_parts.specs.Message.{Served}
use Rattle.wire_parts.specs.Tests.{Word}
use Rattle.wire_meta.specs.declared.command.Kind.TheVariants as kinds
use Rattle.wire_meta.specs.Order.{Asking}
use Rattle.wire_meta.specs.Spelling.{meta_kind, meta_token_words, exptime_words, meta_order_for, line_words, block_by}
use Rattle.wire_stream.specs.Both as both
use Rattle.wire_stream.specs.Message.{AnyMessage, Begins}
use Rattle.wire_stream.specs.Asks.{asks_of, IsClientAsk}
use Rattle.wire_stream.specs.Spelling.{spelling_of, message_of}
use Rattle.wire_stream.proofs.RequestLaws.{asks_are_read_back, messages_are_one_ask}
use Rattle.wire_stream.specs.Replies.{shows_values}
use Rattle.wire_stream.specs.Form.{is_retrieval, wanted, meta_form, in_meta, get_end}
use Rattle.wire_stream.specs.MetaLaws.{cas_flag, get_line, FormsAreRead}

are_wanted : (with_cas : Bool) → are_served of_get (wanted with_cas) ≡ true
are_wanted true = refl
are_wanted false = refl

shape_is : (ask : Ask) (dialect : Dialect) (op : Op) → shows_values dialect op ≡ true → HasShapeOf ask (shape_of dialect op) → HasShapeOf (meta_form ask) (shape_of Meta op)
shape_is ask Classic Get e s = record { with_cas = refl; flags = refl; exptime = s.exptime; body = refl; cas = refl; delta = refl; tokens = are_wanted ask.with_cas }
shape_is ask Classic Gat e s = record { with_cas = refl; flags = refl; exptime = s.exptime; body = refl; cas = refl; delta = refl; tokens = are_wanted ask.with_cas }
shape_is ask Classic Set e s = absurd cc
shape_is ask Classic Add e s = absurd cc
shape_is ask Classic Replace e s = absurd cc
shape_is ask Classic Append e s = absurd cc
shape_is ask Classic Prepend e s = absurd cc
shape_is ask Classic Cas e s = absurd cc
shape_is ask Classic Delete e s = absurd cc
shape_is ask Classic Incr e s = absurd cc
shape_is ask Classic Decr e s = absurd cc
shape_is ask Classic Touch e s = absurd cc
shape_is ask Meta op e s = absurd cc

ranges_are : (ask : Ask) → AreInRange ask → AreInRange (meta_form ask)
ranges_are ask r = record { flags = omega arith; exptime = r.exptime; body = omega arith; cas = tt; delta = omega arith }

pub form_is_ask : (ask : Ask) → IsAsk ask → is_retrieval ask ≡ true → IsAsk (meta_form ask)
form_is_ask ask is e = record { key = is.key; ranges = ranges_are ask is.ranges; shape = shape_is ask ask.dialect ask.op e is.shape }

pub in_meta_is : (ask : Ask) → is_retrieval ask ≡ true → in_meta ask ≡ meta_form ask
in_meta_is ask e = rw e refl

pub in_meta_else : (ask : Ask) → is_retrieval ask ≡ false → in_meta ask ≡ ask
in_meta_else ask e = rw e refl

pub texts_are : (with_cas : Bool) → AreTexts (wanted with_cas)
texts_are true = (tt, (tt, (tt, (tt, tt))))
texts_are false = (tt, (tt, (tt, tt)))

kind_is : (dialect : Dialect) (op : Op) → shows_values dialect op ≡ true → meta_kind op ≡ kinds.Get
kind_is Classic Get e = refl
kind_is Classic Gat e = refl
kind_is Classic Set e = absurd cc
kind_is Classic Add e = absurd cc
kind_is Classic Replace e = absurd cc
kind_is Classic Append e = absurd cc
kind_is Classic Prepend e = absurd cc
kind_is Classic Cas e = absurd cc
kind_is Classic Delete e = absurd cc
kind_is Classic Incr e = absurd cc
kind_is Classic Decr e = absurd cc
kind_is Classic Touch e = absurd cc
kind_is Meta op e = absurd cc

words_are : (with_cas : Bool) → meta_token_words (wanted with_cas) ++ [] ≡ codes "k" ∷ codes "f" ∷ codes "v" ∷ cas_flag with_cas
words_are true = refl
words_are false = refl

line_is : (ask : Ask) → is_retrieval ask ≡ true → message_of (meta_form ask) ≡ get_line ask
line_is ask e =
    let kind : message_of (meta_form ask) ≡ Served (both.Meta (meta_order_for kinds.Get (meta_form ask))) [] = ap (λ k. Served (both.Meta (meta_order_for k (meta_form ask))) []) (kind_is ask.dialect ask.op e) in
    kind ∙ ap (λ (words : List Word). Served (both.Meta (Asking kinds.Get ask.key None (exptime_words ask.exptime ++ words))) []) (words_are ask.with_cas)

-- after the key
abbrev end_words : Bool → List ℕ
end_words true = codes " k f v c"
end_words false = codes " k f v"

spaced_is : (key : List ℕ) (with_cas : Bool) → spaced (codes "mg" ∷ key ∷ meta_token_words (wanted with_cas) ++ []) ≡ codes "mg " ++ key ++ end_words with_cas
spaced_is key true = refl
spaced_is key false = refl

end_is : (with_cas : Bool) → end_words with_cas ++ codes "\r\n" ≡ get_end with_cas
end_is true = refl
end_is false = refl

-- the line of a get that sets no expiry, as it is written
pub get_text : (ask : Ask) → is_retrieval ask ≡ true → ask.exptime ≡ None → spelling_of (meta_form ask) ≡ codes "mg " ++ ask.key ++ get_end ask.with_cas
get_text ask e none =
    let kind : spelling_of (meta_form ask) ≡ words_line (line_words kinds.Get (meta_form ask)) ++ block_by kinds.Get [] = ap (λ k. words_line (line_words k (meta_form ask)) ++ block_by k []) (kind_is ask.dialect ask.op e) in
    let plain : words_line (line_words kinds.Get (meta_form ask)) ++ [] ≡ spaced (codes "mg" ∷ ask.key ∷ meta_token_words (wanted ask.with_cas) ++ []) ++ codes "\r\n" = append-nil (words_line (line_words kinds.Get (meta_form ask))) ∙ ap (λ x. words_line (codes "mg" ∷ ask.key ∷ exptime_words x ++ (meta_token_words (wanted ask.with_cas) ++ []))) none in
    let spaces : spaced (codes "mg" ∷ ask.key ∷ meta_token_words (wanted ask.with_cas) ++ []) ++ codes "\r\n" ≡ (codes "mg " ++ ask.key ++ end_words ask.with_cas) ++ codes "\r\n" = ap (λ xs. xs ++ codes "\r\n") (spaced_is ask.key ask.with_cas) in
    let ends : (codes "mg " ++ ask.key ++ end_words ask.with_cas) ++ codes "\r\n" ≡ codes "mg " ++ ask.key ++ (end_words ask.with_cas ++ codes "\r\n") = ap (λ xs. codes "mg " ++ xs) (append_assoc ask.key (end_words ask.with_cas) (codes "\r\n")) in
    kind ∙ plain ∙ spaces ∙ ends ∙ ap (λ xs. codes "mg " ++ ask.key ++ xs) (end_is ask.with_cas)

client_ask : (ask : Ask) → IsAsk ask → is_retrieval ask ≡ true → IsClientAsk (meta_form ask)
client_ask ask is e = record { well_formed = form_is_ask ask is e; texts = texts_are ask.with_cas }

pub forms_are_read_is : FormsAreRead
forms_are_read_is ask more is e =
    let begins = asks_are_read_back (meta_form ask) more (client_ask ask is e) in
    let line = subst (λ (m : AnyMessage). Begins (spelling_of (meta_form ask) ++ more) m (length (spelling_of (meta_form ask)))) (line_is ask e) begins in (
      subst (λ x. Begins (spelling_of x ++ more) (get_line ask) (length (spelling_of x))) (sym (in_meta_is ask e)) line,
      sym (ap asks_of (line_is ask e)) ∙ (messages_are_one_ask (meta_form ask) (client_ask ask is e)).0,
    )
