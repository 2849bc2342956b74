use Rattle.std.proofs.Common.{take, refl, sym, subst, ◌∙◌}
use Rattle.wire_parts.proofs.Fronts.{nothing_begins, no_word}
use Rattle.wire_stream.specs.Both.{both_grammar}
use Rattle.wire_stream.specs.Message.{IsMeant}
use Rattle.wire_stream.proofs.Lifting.{means_classic, means_meta, reads_meant}
use Rattle.wire_stream.proofs.OtherProtocols.{open_text, long_text}
use Rattle.wire_stream.proofs.requests.reader.read_request.Goals as goal

pub returns-in-More : goal.returns-in-More
returns-in-More c =
    let none = nothing_begins both_grammar c.args.bytes.now c.in-More.ensures in
    (none.0, none.1, open_text c.args.bytes.now (sym c.is_binary.ensures ∙ c.if-is_binary.false) c.in-More.ensures)

pub returns-in-TooLong : goal.returns-in-TooLong
returns-in-TooLong c = (c.in-TooLong.ensures, long_text c.args.bytes.now (sym c.is_binary.ensures ∙ c.if-is_binary.false) c.in-TooLong.ensures)

pub returns-in-None : goal.returns-in-None
returns-in-None c =
    let means = no_word both_grammar c.args.bytes.now c.in-At.end c.in-At.used refl refl c.in-At.ensures c.in-None.ensures in
    reads_meant c.args.bytes.now c.in-At.end c.in-At.used c.in-At.ensures c.of_refused.result (sym c.is_binary.ensures ∙ c.if-is_binary.false) (c.of_refused.ensures c.args.bytes.now _ means)

pub returns-in-Classic : goal.returns-in-Classic
returns-in-Classic c =
    let text = take c.in-At.end c.args.bytes.now in
    let means = means_classic c.args.bytes.now c.in-At.end c.in-At.used c.in-At.ensures c.in-Some.first c.in-Some.ensures (c.in-Classic.ensures.classic refl) in
    reads_meant c.args.bytes.now c.in-At.end c.in-At.used c.in-At.ensures c.of_classic.result (sym c.is_binary.ensures ∙ c.if-is_binary.false) (subst (IsMeant text c.args.bytes.now c.of_classic.result) (sym means) (c.of_classic.ensures c.args.bytes.now _ c.read_after-read.ensures))

pub returns-in-Meta : goal.returns-in-Meta
returns-in-Meta c =
    let text = take c.in-At.end c.args.bytes.now in
    let means = means_meta c.args.bytes.now c.in-At.end c.in-At.used c.in-At.ensures c.in-Some.first c.in-Some.ensures (c.in-Meta.ensures.meta refl) in
    reads_meant c.args.bytes.now c.in-At.end c.in-At.used c.in-At.ensures c.of_meta.result (sym c.is_binary.ensures ∙ c.if-is_binary.false) (subst (IsMeant text c.args.bytes.now c.of_meta.result) (sym means) (c.of_meta.ensures c.args.bytes.now _ c.read_after-read-in-Meta.ensures))
