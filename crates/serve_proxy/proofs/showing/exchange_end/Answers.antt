use Rattle.std.proofs.Common.{sym, ◌∙◌}
use Rattle.wire_parts.specs.Sending.{bytes_of}
use Rattle.std.proofs.lemmas.Bool.{eqb-true}
use Rattle.serve_proxy.proofs.Told.{one_lost, one_empty, no_length}
use Rattle.serve_proxy.proofs.showing.exchange_end.Goals as goal

pub returns-then-is_empty : goal.returns-then-is_empty
returns-then-is_empty c = record { one = λ h. one_empty c.args.client.now c.move_output.result (bytes_of c.args.buffer.now) (bytes_of c.move_output.new.out) c.move_output.ensures.ok c.move_output.ensures.err c.move_output.ensures.fresh c.move_output.ensures.bytes (no_length _ (eqb-true _ _ (sym c.is_empty.ensures ∙ c.if-is_empty.true))) }

pub returns : goal.returns
returns c = record { one = λ h. one_lost c.args.client.now c.break_off.new.self c.move_output.result c.move_output.ensures.ok c.move_output.ensures.err c.move_output.ensures.fresh c.break_off.ensures.broken }
