use Rattle.std.proofs.Common.{refl}
use Rattle.serve_clients.proofs.Agreeing.{ready_keeps}
use Rattle.serve_proxy.proofs.Shedding.{ready_holds}
use Rattle.serve_proxy.proofs.Staying.{stay_clients, stay_still}
use Rattle.serve_proxy.proofs.sockets.Sockets.mark_ready_if.Goals as goal

pub returns-then-is_more : goal.returns-then-is_more
returns-then-is_more g c = record {
  ends = stay_clients _ _ _ _ (ready_keeps c.args.id c.args.self.now.clients c.mark_ready.new.self c.mark_ready.ensures.client);
  held = ready_holds c.args.id c.args.self.now.clients c.mark_ready.new.self c.mark_ready.ensures.client;
}

pub returns-else-is_more : goal.returns-else-is_more
returns-else-is_more g c = record { ends = stay_still _ _ _; held = record { places = refl; held = λ id. refl } }
