use Rattle.serve_links.proofs.Walked.{by_output}
use Rattle.serve_links.proofs.client_bytes.show.Goals as goal

pub returns-clause-core : goal.returns-clause-core
returns-clause-core c = by_output c.args.id c.move_output.result c.args.core.now c.move_output.new.self c.move_output.ensures.ok c.move_output.ensures.err c.move_output.ensures.fresh

pub returns-clause-gives : goal.returns-clause-gives
returns-clause-gives c = (c.in_ok-move_output.ensures.ok, c.in_ok-move_output.ensures.fresh)
