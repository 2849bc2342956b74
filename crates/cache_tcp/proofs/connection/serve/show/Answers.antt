use Rattle.std.proofs.Common.{ℕ, ◌+◌, ◌≤◌, length, sym, ap, subst, nat_eq}
use Rattle.wire_parts.specs.Sending.{bytes_of}
use Rattle.wire_stream.specs.Held.{bytes_at}
use Rattle.wire_stream.proofs.Fronts.{used_held}
use Rattle.cache_tcp.proofs.Keys.{shows_next}
use Rattle.cache_tcp.proofs.connection.serve.show.Goals as goal

pub end_with-requires : goal.end_with-requires
end_with-requires c = subst (λ (n : ℕ). n ≤ length (bytes_at c.args.stream.now)) (sym c.used.ensures) (used_held c.args.stream.now c.args.request.now c.requires.front)

pub returns-clause-ok : goal.returns-clause-ok
returns-clause-ok c =
    let front = c.requires.front in
    shows_next c.args.stream.now c.end_with.new.stream c.args.request.now c.args.index c.args.ask.now c.args.reply.now (bytes_of c.args.out.now) (bytes_of c.write_reply.new.out) c.used.result c.quiet.result _ c.end_with.result
    c.used.ensures c.requires (c.quiet.ensures _ front.read) (ap (λ n. nat_eq (c.args.index + 1) n) (c.asks-count.ensures _ front.read)) c.in_ok-write_reply.ensures.ok c.end_with.ensures.ended c.end_with.ensures.place
