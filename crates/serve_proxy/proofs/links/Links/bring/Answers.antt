use Rattle.std.proofs.Common.{◌≡◌, true, false, sym, ◌∙◌}
use Rattle.serve_proxy.proofs.LinkTexts.{of_ok, brought, began_with}
use Rattle.serve_proxy.proofs.links.Links.bring.Goals as goal

false_true : false ≡ true → ⊥
false_true e = cc

pub returns-then-not-are_of-clause-faults : goal.returns-then-not-are_of-clause-faults
returns-then-not-are_of-clause-faults c = λ begins.
    let added = of_ok c.add.result (sym c.is_err.ensures.value ∙ c.if-is_err.false) c.add.ensures.texts in
    false_true (sym c.if-not-are_of.true ∙ c.are_of.ensures.1 (brought c.args.self.now.all.items c.add.new.self.all.items c.args.servers.now added begins))

pub returns-clause-begins : goal.returns-clause-begins
returns-clause-begins c =
    let added = of_ok c.add.result (sym c.is_err.ensures.value ∙ c.if-is_err.false) c.add.ensures.texts in
    began_with c.args.self.now.all.items c.add.new.self.all.items c.args.servers.now added (c.are_of.ensures.0 c.if-not-are_of.false)

pub returns-clause-texts : goal.returns-clause-texts
returns-clause-texts c = c.are_of.ensures.0 c.if-not-are_of.false
