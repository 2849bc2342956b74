use Rattle.std.proofs.Common.{◌≡◌, ℕ, take, get_or, sym, ap, subst, arith}
use Rattle.std.proofs.lemmas.List.{take_all}
use Rattle.std.specs.Prelude.{Contains}
use Rattle.serve_clients.proofs.Noting.{one_noted}
use Rattle.serve_clients.proofs.places.note_listed.Goals as goal

pub loop-id-preserved : goal.loop-id-preserved
loop-id-preserved c =
    let ids = c.deref-id-items.result.now in
    let at : ℕ = get_or ids c.loop-id.id-index 0 in
    record {
      summed = c.note_at.ensures.summed;
      exact = λ was. c.note_at.ensures.exact (c.loop-id.invariant.exact was);
      noted =
          one_noted c.args.flags.now.items c.loop-id.flags.items c.note_at.new.flags.items c.args.ids.now.items c.loop-id.id-index at (omega (arith, c.loop-id-test.true, c.deref-id-items.ensures.len)) (ap (λ l. get_or l c.loop-id.id-index 0) c.deref-id-items.ensures.value) c.loop-id.invariant.noted
          c.note_at.ensures.flags;
    }

pub returns-clause-noted : goal.returns-clause-noted
returns-clause-noted c =
    let all : take c.loop-id.id-index c.args.ids.now.items ≡ c.args.ids.now.items = take_all c.loop-id.id-index c.args.ids.now.items (omega (arith, c.loop-id-test.false, c.deref-id-items.ensures.len)) in
    λ id on. ((c.loop-id.invariant.noted id on).0, λ has. (c.loop-id.invariant.noted id on).1 (subst (λ l. Contains l id) (sym all) has))
