use Rattle.std.proofs.Common.{◌∙◌, subst}
use Rattle.gate_check.specs.Tables.{AreTooMany, IsMultiple}
use Rattle.gate_check.proofs.SizeMultiples.{left_small}
use Rattle.gate_check.proofs.places.making.modulus_at.Goals as goal

pub returns : goal.returns
returns c =
    let large : AreTooMany c.deref.result.now = subst (IsMultiple c.deref.result.now) c.in-None.is c.least_multiple.ensures in
    absurd (left_small c.args.text.now c.args.first.now c.args.second.now c.args.whole c.requires.some c.requires.within c.requires.common (subst AreTooMany (c.deref.ensures.value ∙ c.in_ok-list.ensures) large))
