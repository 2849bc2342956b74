use Rattle.std.proofs.Common.{sym, subst}
use Rattle.std.proofs.lemmas.Result.{IfOk-weaker}
use Rattle.mc_types.specs.Parts.{ask_of}
use Rattle.wire_stream.specs.Asks.{IsClientAsk}
use Rattle.wire_stream.proofs.RequestLaws.{classic_read, meta_read, of_classic}
use Rattle.wire_stream.proofs.requests.request.Request.ask.Goals as goal

pub parts-requires-clause-read : goal.parts-requires-clause-read
parts-requires-clause-read c = classic_read c.args.received.now c.in-Classic.request (rw c.in-Classic.is at c.requires.read)

pub parts-requires-in-Meta-clause-read : goal.parts-requires-in-Meta-clause-read
parts-requires-in-Meta-clause-read c = meta_read c.args.received.now c.in-Meta.request (rw c.in-Meta.is at c.requires.read)

pub returns-in_ok-parts-in-Classic-clause-ask : goal.returns-in_ok-parts-in-Classic-clause-ask
returns-in_ok-parts-in-Classic-clause-ask c = IfOk-weaker c.of.result _ _ (λ ask same. subst IsClientAsk (sym same) (of_classic (ask_of c.in_ok-parts-in-Classic.parts) c.in_ok-parts-in-Classic.ensures.ask)) c.of.ensures
