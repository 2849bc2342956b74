use Rattle.std.proofs.Common.{◌≡◌, ◌∙◌, ◌++◌, ◌∷◌, [], List, ap}
use Rattle.std.proofs.lemmas.Result.{on_ok_weaker}
use Rattle.mc_types.specs.declared.token.Token.{Token}
use Rattle.wire_parts.specs.Tests.{Word}
use Rattle.wire_meta.specs.Spelling.{meta_led, meta_token_words, exptime_words, length_words, value_words}
use Rattle.wire_meta.proofs.WriteLemmas.{led-words}
use Rattle.wire_meta.proofs.writer.put_words.Goals as goal

pub returns-clause-ok : goal.returns-clause-ok
returns-clause-ok c =
    let key : c.put_word.new.out.items ≡ c.args.out.now.items ++ meta_led (c.args.ask.now.key ∷ []) = c.in_ok-put_word.ensures.ok ∙ ap (λ (t : Word). c.args.out.now.items ++ meta_led (t ∷ [])) c.as_bytes.ensures in
    let tokens : c.put_tokens.new.out.items ≡ c.put_exptime.new.out.items ++ meta_led (meta_token_words c.args.ask.now.tokens) = c.in_ok-put_tokens.ensures.ok ∙ ap (λ (ts : List Token). c.put_exptime.new.out.items ++ meta_led (meta_token_words ts)) c.as_slice.ensures in
    on_ok_weaker c.put_values.result
    (λ e. led-words c.args.out.now.items c.args.ask.now.key (length_words c.args.kind c.args.ask.now) (exptime_words c.args.ask.now.exptime) (meta_token_words c.args.ask.now.tokens) (value_words c.args.kind c.args.ask.now) _ _ _ _ _ key c.in_ok-put_length.ensures.ok c.in_ok-put_exptime.ensures.ok tokens e)
    c.put_values.ensures.ok
