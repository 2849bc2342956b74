-- A reply of the code as the definitions have it.
use Rattle.route_tree.specs.Word.{Given}
use Rattle.route_job.specs.declared.done.Done.{Done}

abbrev pub given_when_done : Done → Given
given_when_done done = record { reply = done.reply; from = done.from }
