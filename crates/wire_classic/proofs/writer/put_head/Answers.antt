use Rattle.std.proofs.Common.{◌≡◌, ◌∙◌, ap, append_assoc, length, decimal}
use Rattle.std.proofs.lemmas.Result.{on_ok_weaker}
use Rattle.wire_classic.specs.Spelling.{command_word}
use Rattle.wire_classic.proofs.WriteLemmas.{eight}
use Rattle.wire_classic.proofs.writer.put_head.Goals as goal

pub returns-clause-ok : goal.returns-clause-ok
returns-clause-ok c =
    let flags : c.as_bytes-2.result.now ≡ decimal c.args.ask.now.flags = c.as_bytes-2.ensures.value ∙ c.format.ensures.text in
    let count : c.as_bytes-3.result.now ≡ decimal (length c.args.ask.now.body) = c.as_bytes-3.ensures.value ∙ c.format-2.ensures.text ∙ ap decimal c.len.ensures in
    on_ok_weaker c.extend_from_slice-7.result
    (λ e. eight c.args.out.now.items (command_word c.args.ask.now.op c.args.ask.now.with_cas) c.args.ask.now.key (decimal c.args.ask.now.flags) c.args.exptime.now (decimal (length c.args.ask.now.body)) _ _ _ _ _ _ _ _
    (c.in_ok-put_word.ensures.ok ∙ append_assoc c.args.out.now.items (command_word c.args.ask.now.op c.args.ask.now.with_cas) _) (rw (← c.as_bytes.ensures) c.in_ok-extend_from_slice.ensures.ok) c.in_ok-extend_from_slice-2.ensures.ok
    (rw (← flags) c.in_ok-extend_from_slice-3.ensures.ok) c.in_ok-extend_from_slice-4.ensures.ok c.in_ok-extend_from_slice-5.ensures.ok c.in_ok-extend_from_slice-6.ensures.ok (rw (← count) e))
    c.extend_from_slice-7.ensures.ok
