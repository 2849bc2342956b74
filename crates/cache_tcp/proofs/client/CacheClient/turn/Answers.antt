use Rattle.std.proofs.Common.{sym, subst}
use Rattle.wire_parts.specs.Sending.{bytes_of}
use Rattle.serve_wire.specs.declared.conn.conn.Limits.{Limits}
use Rattle.cache_tcp.specs.Steps.{IsWithin}
use Rattle.cache_tcp.proofs.Touching.{only_joined}
use Rattle.cache_tcp.proofs.client.CacheClient.turn.Goals as goal

pub returns-clause-within : goal.returns-clause-within
returns-clause-within g c = λ w.
    let a = c.take_in.new.self.conn in
    let b = c.send-sent.new.self.conn in
    let kept = subst (λ (l : Limits). IsWithin l.unsent (bytes_of a.unsent)) (sym c.take_in.ensures.limits) (c.take_in.ensures.within w) in
    subst (λ (l : Limits). IsWithin l.unsent (bytes_of b.unsent)) (sym c.send-sent.ensures.limits) (c.send-sent.ensures.unsent kept)

pub returns-clause-only : goal.returns-clause-only
returns-clause-only g c =
    only_joined c.args.self.now.conn.number c.take_in.new.self.conn.number _ _ _ c.take_in.ensures.number c.take_in.ensures.only c.send-sent.ensures.only
