use Rattle.wire_stream.proofs.Forms.{forms_are_read_is}
use Rattle.wire_stream.proofs.meta_gets.laws.forms_are_read.Goals as goal

pub returns : goal.returns
returns c = forms_are_read_is
