use Rattle.std.proofs.Common.{sym}
use Rattle.wire_stream.proofs.Lines.{long_is_foreign, other_is_foreign}
use Rattle.wire_stream.proofs.meta_gets.dialect.read_dialect.Goals as goal

pub returns-in-TooLong : goal.returns-in-TooLong
returns-in-TooLong c = long_is_foreign c.args.bytes.now c.in-TooLong.ensures

pub returns-in-None : goal.returns-in-None
returns-in-None c = other_is_foreign c.args.bytes.now c.in-At.end c.in-At.used c.in-At.ensures (sym c.in-None.ensures)
