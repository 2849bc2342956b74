use Rattle.std.proofs.Common.{refl}
use Rattle.serve_proxy.proofs.Going.{and_then, sent_due}
use Rattle.serve_proxy.proofs.Staying.{stay_clients}
use Rattle.serve_proxy.proofs.Linking.{hindered_at}
use Rattle.serve_proxy.proofs.calls.refuse_waited.Goals as goal

pub refuse-requires : goal.refuse-requires
refuse-requires g c = hindered_at c.args.it.why _ c.args.at c.args.it.call.since _ c.requires

pub returns : goal.returns
returns g c = record { ends = and_then (sent_due c.args.at c.args.it.call c.args.core.now (stay_clients _ _ _ _ c.end_waiting.ensures.ends)) c.refuse.ensures.ends; told = refl }
