use Rattle.std.proofs.lemmas.Result.{IfOk-weaker}
use Rattle.wire_parts.specs.Sending.{bytes_of}
use Rattle.cache_tcp.proofs.Keys.{serves_next}
use Rattle.cache_tcp.proofs.connection.serve.serve_ask.Goals as goal

pub returns-clause-ok : goal.returns-clause-ok
returns-clause-ok c =
    IfOk-weaker c.show-shown.result _ _ (λ ended shows.
    serves_next c.args.moment.seconds c.args.stream.now c.show-shown.new.stream c.args.request.now c.args.index c.args.ask.now c.args.cache.now c.reply_to.new.cache c.in_ok-reply.reply (bytes_of c.args.out.now) (bytes_of c.show-shown.new.out) ended
    c.requires.at c.in_ok-reply.ensures.ok shows) c.show-shown.ensures.ok
