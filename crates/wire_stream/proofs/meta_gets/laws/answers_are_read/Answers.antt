use Rattle.wire_stream.proofs.Answers.{answers_are_read_is}
use Rattle.wire_stream.proofs.meta_gets.laws.answers_are_read.Goals as goal

pub returns : goal.returns
returns c = answers_are_read_is
