use Rattle.std.proofs.Common.{arith}
use Rattle.std.specs.Prelude.{decimal}
use Rattle.wire_answers.proofs.Pieces.{hit_pieces}
use Rattle.wire_answers.proofs.writer.put_hit_line.Goals as goal

pub returns-clause-ok : goal.returns-clause-ok
returns-clause-ok c =
    let whole = hit_pieces c.args.key.now (decimal c.args.flags) (decimal c.args.len) c.args.out.now.items c.args.cas in
    grind (arith, whole)
