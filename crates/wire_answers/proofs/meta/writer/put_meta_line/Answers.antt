use Rattle.std.proofs.Common.{arith}
use Rattle.wire_answers.proofs.MetaPieces.{line_pieces}
use Rattle.wire_answers.proofs.meta.writer.put_meta_line.Goals as goal

pub returns-clause-ok : goal.returns-clause-ok
returns-clause-ok c =
    let whole = line_pieces c.args.out.now.items c.args.ask.now c.args.code c.args.fields.now in
    grind (arith, whole)
