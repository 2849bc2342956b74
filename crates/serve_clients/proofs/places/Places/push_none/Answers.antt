use Rattle.std.proofs.Common.{rules, sym, List, Option}
use Rattle.serve_clients.specs.declared.clients.Client.{Client}
use Rattle.std.proofs.Common.{subst}
use Rattle.serve_clients.specs.Notes.{AreNoted}
use Rattle.serve_clients.proofs.Noting.{notes_more, places_more}
use Rattle.serve_clients.proofs.places.Places.push_none.Goals as goal

pub invariant_of-self-in_err-push-3 : goal.invariant_of-self-in_err-push-3
invariant_of-self-in_err-push-3 c =
    let p = c.self.inside in
    subst (λ (l : List (Option Client)). AreNoted l c.push.new.self.items c.push-2.new.self.items p.total p.touched.items p.is_short) (sym c.in_err-push-3.ensures.items)
    (notes_more p.all.items p.held.items c.push.new.self.items p.flags.items c.push-2.new.self.items p.total p.touched.items p.is_short (search rules) (search rules) c.self.invariant)

pub invariant_of-self-2 : goal.invariant_of-self-2
invariant_of-self-2 c =
    let p = c.self.inside in
    places_more p.all.items c.push-3.new.self.items p.held.items c.push.new.self.items p.flags.items c.push-2.new.self.items p.total p.touched.items p.is_short (search rules) (search rules) (search rules) c.self.invariant
