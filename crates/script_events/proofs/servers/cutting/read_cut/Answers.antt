use Rattle.std.proofs.Common.{◌≡◌, ◌++◌, take, ap, subst, ◌∙◌}
use Rattle.wire_answers.specs.Fitting.{AreTexts}
use Rattle.wire_answers.specs.Spelling.{answer_spelling}
use Rattle.wire_answers.specs.Reading.{ReadsAnswer, LiesWithin}
use Rattle.script_events.proofs.Cuts.{read_cut}
use Rattle.script_events.proofs.servers.cutting.read_cut.Goals as goal

pub returns : goal.returns
returns c =
    let ask = c.args.ask.now in
    let spelled = answer_spelling ask c.args.answer.now in
    let text : c.as_slice-2.result.now ≡ take c.args.count spelled = c.as_slice-2.ensures ∙ c.truncate.ensures.items ∙ ap (λ l. take c.args.count l) (c.in_ok-write_answer.ensures.ok ∙ ap (λ l. l ++ spelled) c.new-text.ensures.items) in
    c.answer_in.ensures
    ∙ read_cut ask c.args.answer.now c.requires.ask (subst AreTexts c.as_slice.ensures c.are_texts.ensures) c.requires.fits c.args.count c.in_ok-read.read
    (subst (λ bytes. ReadsAnswer ask bytes c.in_ok-read.read) text c.in_ok-read.ensures.reads)
    (subst (λ bytes. LiesWithin bytes c.in_ok-read.read) text c.in_ok-read.ensures.within)
