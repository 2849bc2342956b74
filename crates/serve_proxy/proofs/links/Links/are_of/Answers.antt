use Rattle.std.proofs.Common.{◌≡◌, true, false, arith, refl, sym, ◌∙◌}
use Rattle.serve_proxy.proofs.LinkTexts.{one_more_of, all_of, have_one}
use Rattle.serve_proxy.proofs.links.Links.are_of.Goals as goal

false_true : false ≡ true → ⊥
false_true e = cc

pub loop-at-init : goal.loop-at-init
loop-at-init c = λ i within. absurd (omega (arith, within))

pub loop-at-preserved : goal.loop-at-preserved
loop-at-preserved c = let one = c.is_of.ensures.0 c.if-not-is_of.false in one_more_of c.loop-at.at c.args.self.now.all.items c.args.servers.now c.loop-at.invariant (one.1 ∙ sym one.2)

pub returns-then-not-is_of : goal.returns-then-not-is_of
returns-then-not-is_of c = (
  λ is. absurd (false_true is),
  λ same. absurd (false_true (sym c.if-not-is_of.true ∙ c.is_of.ensures.1 (have_one c.args.self.now.all.items c.args.servers.now c.loop-at.at same (omega arith)))),
)

pub returns : goal.returns
returns c = (λ is. all_of c.loop-at.at c.args.self.now.all.items c.args.servers.now c.loop-at.invariant (omega arith) (omega arith), λ same. refl)
