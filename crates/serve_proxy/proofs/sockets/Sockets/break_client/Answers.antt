use Rattle.std.proofs.Common.{length, refl, sym, ap, ◌∙◌}
use Rattle.serve_wire.proofs.Steps.{untouched}
use Rattle.serve_clients.specs.declared.clients.Client.{Client}
use Rattle.serve_clients.specs.Holdings.{held_of}
use Rattle.serve_links.proofs.Reading.{breaks_now}
use Rattle.serve_proxy.proofs.Lent.{on_some, lent_here, lent_others, lent_places}
use Rattle.serve_proxy.proofs.Shedding.{broken_holds}
use Rattle.serve_proxy.proofs.Staying.{stay_alike}
use Rattle.serve_proxy.proofs.Greatest.{same_there}
use Rattle.serve_proxy.proofs.Going.{stays, one_goes, one_broken, number_broken}
use Rattle.serve_proxy.proofs.sockets.Sockets.break_client.Goals as goal

pub returns-in-Some : goal.returns-in-Some
returns-in-Some g c =
    let x = c.in-Some.client.now in
    let y = c.break_off.new.self in
    let broken = c.break_off.ensures.broken in
    let lends = on_some c.get_mut.result c.in-Some.client _ c.in-Some.is (c.get_mut.follows.holds y) in
    record {
      ends = λ core.
          one_goes c.args.id c.args.self.now.clients (c.get_mut.follows.lender y) x y (sym c.in-Some.ensures.value) lends
          (one_broken refl refl (breaks_now _ x y broken) (number_broken x y broken) (λ d other. untouched d _) (ap (λ (z : Client). z.is_broken) broken.rest));
      others = λ other not. lent_others c.args.self.now.clients (c.get_mut.follows.lender y) c.args.id other y not lends;
      none = ap held_of (lent_here c.args.self.now.clients (c.get_mut.follows.lender y) c.args.id x y (sym c.in-Some.ensures.value) lends) ∙ broken_holds x y broken;
      places = lent_places c.args.self.now.clients (c.get_mut.follows.lender y) c.args.id y lends;
    }

pub returns-in-None : goal.returns-in-None
returns-in-None g c =
    let alike = c.get_mut.follows.holds-at-none in
    record {
      ends = λ core. stays core (stay_alike alike);
      others = λ other not. same_there _ _ other alike;
      none = ap held_of (same_there _ _ c.args.id alike ∙ sym c.in-None.ensures.value);
      places = ap length alike.clients;
    }
