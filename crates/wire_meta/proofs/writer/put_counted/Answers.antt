use Rattle.std.proofs.Common.{◌≡◌, ◌∙◌, ℕ, List, ◌++◌, ◌∷◌, [], ap, decimal}
use Rattle.std.proofs.lemmas.Result.{on_ok_weaker}
use Rattle.wire_meta.specs.Spelling.{meta_led, meta_cas_words, mode_word}
use Rattle.wire_meta.proofs.WriteLemmas.{led-three}
use Rattle.wire_meta.proofs.writer.put_counted.Goals as goal

pub returns-clause-ok : goal.returns-clause-ok
returns-clause-ok c =
    let text : c.as_bytes.result.now ≡ decimal c.args.n = c.as_bytes.ensures.value ∙ c.format.ensures.text in
    let word : c.put_word.new.out.items ≡ c.put_cas.new.out.items ++ meta_led ((c.args.letter.now ++ decimal c.args.n) ∷ []) = rw (← text) c.in_ok-put_word.ensures.ok in
    on_ok_weaker c.put_word-2.result
    (λ e. led-three c.args.out.now.items (meta_cas_words c.args.ask.now.cas) (c.args.letter.now ++ decimal c.args.n) (mode_word c.args.ask.now.op) _ _ _ c.in_ok-put_cas.ensures.ok word (e ∙ ap (λ (t : List ℕ). c.put_word.new.out.items ++ meta_led ((77 ∷ t) ∷ [])) c.mode_text.ensures))
    c.put_word-2.ensures.ok
