use Rattle.std.proofs.Common.{List, subst}
use Rattle.std.specs.Prelude.{IfErr, OnOk, ◌∷◌, [], ◌++◌, ◌≡◌}
use Rattle.gate_growth.specs.declared.ledger.unsound.Unsound.{Unsound}
use Rattle.gate_history.specs.declared.generation.Generation.{Generation}
use Rattle.gate_history.specs.Judged.{IsUnsoundAfter}
use Rattle.gate_history.proofs.Judging.{known_after, refused_after}
use Rattle.gate_history.proofs.history.History.follow.Goals as goal

pub invariant_of-self : goal.invariant_of-self
invariant_of-self c =
    let taken = c.take_next.ensures in
    known_after c.self.inside.generations.items c.take_next.new.generations.items (record { config = c.args.config; began = c.args.new }) c.self.inside.ledger c.take_next.new.ledger c.take_next.result c.self.invariant taken.taken taken.servers taken.followed taken.same

pub returns-clause-followed : goal.returns-clause-followed
returns-clause-followed c =
    subst (λ (gs : List Generation). OnOk c.take_next.result (c.take_next.new.generations.items ≡ gs ++ record { config = c.args.config; began = c.args.new } ∷ [])) c.self.view_is c.take_next.ensures.taken

pub returns-clause-refused : goal.returns-clause-refused
returns-clause-refused c =
    let taken = c.take_next.ensures in
    subst (λ (gs : List Generation). IfErr c.take_next.result (λ (u : Unsound). (c.take_next.new.generations.items ≡ gs) × IsUnsoundAfter gs c.args.config c.args.new u)) c.self.view_is
    (refused_after c.self.inside.generations.items c.take_next.new.generations.items (record { config = c.args.config; began = c.args.new }) c.self.inside.ledger c.take_next.new.ledger c.take_next.result c.self.invariant taken.followed taken.same)
