use Rattle.std.proofs.Common.{◌≤◌, sym, ◌∙◌, subst}
use Rattle.serve_clients.specs.declared.clients.Clients.{Clients}
use Rattle.serve_clients.specs.Agrees.{KeepsEnds}
use Rattle.serve_clients.proofs.Agreeing.{keeps_none}
use Rattle.serve_proxy.specs.Stalls.{held_by_all}
use Rattle.serve_proxy.proofs.Shedding.{no_more}
use Rattle.serve_proxy.proofs.Staying.{stay_clients}
use Rattle.serve_proxy.proofs.sockets.Sockets.has_too_much.Goals as goal

pub returns-then-was_short : goal.returns-then-was_short
returns-then-was_short g c =
    let same = c.hold_more-is_more.ensures.same ∙ c.hold_more-is_any.ensures.same in
    record {
      ends = stay_clients _ _ _ _ (subst (λ (n : Clients). KeepsEnds c.args.self.now.clients n) (sym same) (keeps_none c.args.self.now.clients));
      bounded = λ few. absurd (cc);
      clients = same;
    }

pub returns-else-was_short : goal.returns-else-was_short
returns-else-was_short g c =
    let same = c.hold_more-is_more.ensures.same ∙ c.hold_more-is_any.ensures.same in
    record {
      ends = stay_clients _ _ _ _ (subst (λ (n : Clients). KeepsEnds c.args.self.now.clients n) (sym same) (keeps_none c.args.self.now.clients));
      bounded = λ few. subst (λ (n : Clients). held_by_all n ≤ c.args.most) c.hold_more-is_any.ensures.same (no_more c.hold_more-is_more.result c.args.most (held_by_all c.hold_more-is_any.new.self) c.hold_more-is_more.ensures.more few);
      clients = same;
    }
