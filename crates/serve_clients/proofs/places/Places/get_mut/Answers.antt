use Rattle.serve_clients.proofs.Noting.{noted_touched, noted_lent}
use Rattle.serve_clients.proofs.places.Places.get_mut.Goals as goal

pub invariant_of-self-lent : goal.invariant_of-self-lent
invariant_of-self-lent c =
    let p = c.self.inside in
    let n = c.touch.new in
    λ r. (
      λ w. noted_lent p.all.items p.held.items p.flags.items n.flags.items p.total p.touched.items n.ids.items p.is_short n.is_short c.args.id w c.touch.ensures.flags c.touch.ensures.touched c.self.invariant,
      noted_touched p.all.items p.held.items p.flags.items n.flags.items p.total p.touched.items n.ids.items p.is_short n.is_short c.args.id c.touch.ensures.flags c.touch.ensures.touched c.self.invariant,
    )
