use Rattle.std.proofs.Common.{ℕ, List, sym, subst}
use Rattle.wire_parts.specs.Sending.{bytes_of}
use Rattle.cache_tcp.specs.Steps.{IsWithin}
use Rattle.cache_tcp.proofs.Fronts.{within_sent}
use Rattle.cache_tcp.proofs.Touching.{sent_only}
use Rattle.cache_tcp.proofs.client.CacheClient.send.Goals as goal

pub returns-clause-unsent : goal.returns-clause-unsent
returns-clause-unsent g c = λ w.
    let most = c.args.self.now.conn.limits.unsent in
    subst (λ (l : List ℕ). IsWithin most l) (sym c.give_back.ensures.unsent)
    (within_sent most c.args.self.now.conn.number (bytes_of c.args.self.now.conn.unsent) (bytes_of c.send_once-sent.new.self.unsent) _ _ c.send_once-sent.result c.send_once-sent.ensures.sent w)

pub returns-clause-only : goal.returns-clause-only
returns-clause-only g c =
    sent_only c.args.self.now.conn.number (bytes_of c.args.self.now.conn.unsent) (bytes_of c.send_once-sent.new.self.unsent) _ _ c.send_once-sent.result c.send_once-sent.ensures.sent
