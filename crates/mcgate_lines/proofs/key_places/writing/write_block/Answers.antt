use Rattle.gate_gaps.proofs.Written.{both_written}
use Rattle.mcgate_lines.proofs.key_places.writing.write_block.Goals as goal

pub returns-clause-ok : goal.returns-clause-ok
returns-clause-ok g c = (
  c.of-place.result,
  c.of-place.ensures c.args.config.now.tree c.requires.is_table,
  both_written _ _ _ _ _ (both_written _ _ _ _ _ c.in_ok-write_key_line.ensures c.in_ok-write_place.ensures) c.in_ok-write_key_plain.ensures.ok,
)
