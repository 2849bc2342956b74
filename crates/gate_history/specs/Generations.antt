-- How generations are stored.
use Rattle.std.specs.Prelude.{List}
use Rattle.std.specs.Coded.{Coded, coded_list}
use Rattle.gate_history.specs.declared.generation.Generation.{Generation}
use Rattle.gate_history.specs.contracts.generation.Generation as generation

abbrev pub generations_code : Coded (List Generation)
generations_code = coded_list generation.the_row.coded
