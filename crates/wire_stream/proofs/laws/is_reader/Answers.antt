use Rattle.wire_stream.proofs.ReaderLaws.{reader_is}
use Rattle.wire_stream.proofs.laws.is_reader.Goals as goal

pub returns : goal.returns
returns c = reader_is
