use Rattle.std.proofs.Common.{◌≡◌, ◌∙◌, ap, take}
use Rattle.wire_stream.proofs.Hits.{hit_is_read, hit_within}
use Rattle.wire_stream.proofs.meta_gets.usual.read_hit.Goals as goal

pub returns-clause-reads : goal.returns-clause-reads
returns-clause-reads c = hit_is_read c.args.ask.now c.args.received.now c.in_ok-body.body c.args.hit c.bytes_are_a_key.ensures c.requires (c.in_ok-body.ensures ∙ ap (λ rest. take c.args.hit.len rest) c.after.ensures)

pub returns-clause-within : goal.returns-clause-within
returns-clause-within c = (hit_within c.args.ask.now c.args.received.now c.args.hit c.bytes_are_a_key.ensures c.requires).1
