use Rattle.std.proofs.Common.{◌-◌, ◌≤◌, inl, refl, sym, subst}
use Rattle.serve_clients.proofs.Agreeing.{keeps_none}
use Rattle.serve_proxy.specs.Stalls.{HasMost, holders}
use Rattle.serve_proxy.proofs.Going.{and_then, breaking, stays, still}
use Rattle.serve_proxy.proofs.Greatest.{only_most, if_there}
use Rattle.serve_proxy.proofs.Shedding.{fewer, alike_holders, nobody_holds}
use Rattle.serve_proxy.proofs.stalls.shed_one.Goals as goal

pub returns : goal.returns
returns g c =
    let most = if_there (HasMost c.args.sockets.now.clients) c.greatest.result c.in-Some.id c.in-Some.is c.greatest.ensures.most in
    let same = alike_holders c.break_client.new.self.clients c.mark_ready_if.new.self.clients c.mark_ready_if.ensures.held in
    record {
      ends = and_then (breaking (c.break_client.ensures.ends c.args.core.now)) (stays c.args.core.now c.mark_ready_if.ensures.ends);
      only =
          only_most c.args.sockets.now.clients c.args.sockets.now.clients c.break_client.new.self.clients c.mark_ready_if.new.self.clients c.in-Some.id (keeps_none c.args.sockets.now.clients) c.break_client.ensures.others
          c.mark_ready_if.ensures.ends.clients
          most;
      fewer = subst (λ n. n ≤ holders c.args.sockets.now.clients - 1) (sym same) (fewer c.args.sockets.now.clients c.break_client.new.self.clients c.in-Some.id c.break_client.ensures.places c.break_client.ensures.others c.break_client.ensures.none most);
    }

pub returns-in_default : goal.returns-in_default
returns-in_default g c = record { ends = still; only = λ id. inl refl; fewer = nobody_holds c.args.sockets.now.clients (c.greatest.ensures.none c.in_default.is) }
