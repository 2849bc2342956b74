use Rattle.std.specs.List.{flat_map}
use Rattle.wire_parts.specs.Sending.{sending_bytes}
use Rattle.cache_tcp.proofs.Fronts.{passes_on}
use Rattle.cache_tcp.proofs.connection.serve.pass_front.Goals as goal

pub returns-clause-ok : goal.returns-clause-ok
returns-clause-ok c =
    passes_on c.args.stream.now c.pass.new.stream c.in_ok-pass.field-0 (flat_map sending_bytes c.args.out.now.pieces.items) c.args.out.now.text.items c.pass.new.output.items c.in_ok-pass.ensures.ok
