use Rattle.std.proofs.Common.{Some, sym, ap, ◌∙◌}
use Rattle.std.proofs.lemmas.Result.{on_err_weaker}
use Rattle.cache_tcp.proofs.Keys.{stops_at}
use Rattle.cache_tcp.proofs.connection.serve.serve_key.Goals as goal

pub returns-clause-err : goal.returns-clause-err
returns-clause-err c =
    on_err_weaker c.serve_ask-served.result (λ stops.
    stops_at c.args.moment.seconds c.args.stream.now c.args.request.now c.args.index c.get.result.now c.args.cache.now c.serve_ask-served.new.cache c.requires.front (c.in_ok-ask.ensures.value ∙ ap Some (sym c.get.ensures)) stops) c.serve_ask-served.ensures.err
