use Rattle.std.specs.Prelude.{string_bytes}
use Rattle.mcgate_ends.proofs.InputLemmas.{reads_limited, limited}
use Rattle.mcgate_ends.proofs.input_text.reading.read_input_noting.Goals as goal

pub returns-in-Ok : goal.returns-in-Ok
returns-in-Ok g c =
    let front = rw c.take-limited.ensures.inner at c.in-Ok.ensures.bytes in
    reads_limited (λ text. string_bytes text) 16777216 (g.R.Read.remaining c.args.reader) c.read_to_end.new.buf.items _
    (limited 16777216 c.take-limited.result.limit (g.R.Read.remaining c.args.reader) c.new-bytes.result.items c.read_to_end.new.buf.items c.take-limited.ensures.limit c.new-bytes.ensures.items front) c.text_of.ensures
