use Rattle.std.proofs.Common.{refl, sym, ap, subst}
use Rattle.serve_wire.proofs.Steps.{untouched}
use Rattle.serve_clients.specs.declared.clients.Client.{Client}
use Rattle.serve_links.proofs.Reading.{breaks_now}
use Rattle.serve_proxy.specs.Stalls.{HasStalled}
use Rattle.serve_proxy.proofs.Lent.{on_some, stay_lent}
use Rattle.serve_proxy.proofs.Staying.{stay_alike}
use Rattle.serve_proxy.proofs.Going.{stays, one_goes, one_broken, number_broken}
use Rattle.serve_proxy.proofs.Stalling.{only_none, only_kept, only_one}
use Rattle.serve_proxy.proofs.sockets.Sockets.break_stalled.Goals as goal

pub returns : goal.returns
returns g c =
    let x = c.in-Some.client.now in
    let y = c.break_off.new.self in
    let lends = on_some c.get_mut.result c.in-Some.client _ c.in-Some.is (c.get_mut.follows.holds y) in
    let broken = c.break_off.ensures.broken in
    record {
      ends = λ core.
          one_goes c.args.id c.args.self.now.clients (c.get_mut.follows.lender y) x y (sym c.in-Some.ensures.value) lends
          (one_broken refl refl (breaks_now _ x y broken) (number_broken x y broken) (λ d other. untouched d _) (ap (λ (z : Client). z.is_broken) broken.rest));
      only = only_one c.args.self.now.time c.args.self.now.stalls c.args.self.now.clients (c.get_mut.follows.lender y) c.args.id x y (sym c.in-Some.ensures.value) lends (subst (λ s. HasStalled c.args.self.now.stalls.ms c.args.self.now.time s x) c.since-since.ensures (c.has_stalled.ensures.0 c.if-not-has_stalled.false));
    }

pub returns-then-not-has_stalled : goal.returns-then-not-has_stalled
returns-then-not-has_stalled g c =
    let x = c.in-Some.client.now in
    let lends = on_some c.get_mut.result c.in-Some.client _ c.in-Some.is (c.get_mut.follows.holds x) in
    record {
      ends = λ core. stays core (stay_lent c.args.self.now.clients (c.get_mut.follows.lender x) c.args.id x x (sym c.in-Some.ensures.value) refl lends);
      only = only_kept c.args.self.now.time c.args.self.now.stalls c.args.self.now.clients (c.get_mut.follows.lender x) c.args.id x (sym c.in-Some.ensures.value) lends;
    }

pub returns-in_default : goal.returns-in_default
returns-in_default g c = record { ends = λ core. stays core (stay_alike c.get_mut.follows.holds-at-none); only = only_none c.args.self.now.time c.args.self.now.stalls _ _ c.get_mut.follows.holds-at-none }
