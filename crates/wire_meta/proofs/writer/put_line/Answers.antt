use Rattle.std.proofs.Common.{◌≡◌, ◌∙◌, ◌++◌, ◌∷◌, ℕ, List, ap}
use Rattle.std.proofs.lemmas.Result.{on_ok_weaker}
use Rattle.wire_meta.specs.Spelling.{kind_word, length_words, flag_words}
use Rattle.wire_meta.proofs.WriteLemmas.{line-led}
use Rattle.wire_meta.proofs.writer.put_line.Goals as goal

pub returns-clause-ok : goal.returns-clause-ok
returns-clause-ok c =
    let word : c.extend_from_slice.new.self.items ≡ c.args.out.now.items ++ kind_word c.args.kind = c.in_ok-extend_from_slice.ensures.ok ∙ ap (λ (t : List ℕ). c.args.out.now.items ++ t) c.kind_word.ensures in
    on_ok_weaker c.extend_from_slice-2.result
    (λ e. line-led c.args.out.now.items (kind_word c.args.kind) (c.args.ask.now.key ∷ length_words c.args.kind c.args.ask.now ++ flag_words c.args.kind c.args.ask.now) _ _ _ word c.in_ok-put_words.ensures.ok e)
    c.extend_from_slice-2.ensures.ok
