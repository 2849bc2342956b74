use Rattle.std.proofs.Common.{◌≡◌, ℕ, length, refl, subst}
use Rattle.std.specs.Prelude.{IfOk, IfErr}
use Rattle.gate_check.specs.Sound.{trees_of}
use Rattle.gate_check.proofs.Answering.{on_ok}
use Rattle.gate_growth.specs.declared.ledger.unsound.Unsound.{Unsound}
use Rattle.gate_growth.specs.Ledgers.{IsUnsoundFor}
use Rattle.core_accepted.specs.Known.{Known, is_arbitrary, more}
use Rattle.core_accepted.proofs.Growing.{next_known}
use Rattle.core_accepted.proofs.generations.Generations.follow.Goals as goal

pub invariant_of-self : goal.invariant_of-self
invariant_of-self c =
    let was : Known = record { configs = c.self.inside.configs.items; founders = c.self.inside.founders; begun = c.self.inside.begun } in
    c.take_later.ensures.book was refl refl c.self.invariant

pub returns-clause-followed : goal.returns-clause-followed
returns-clause-followed c =
    let was : Known = record { configs = c.self.inside.configs.items; founders = c.self.inside.founders; begun = c.self.inside.begun } in
    let now : Known = record { configs = c.take_later.new.configs.items; founders = c.self.inside.founders; begun = c.self.inside.begun } in
    let taken = c.take_later.ensures in
    subst (λ (k : Known). IfOk c.take_later.result (λ (n : ℕ). (now ≡ more c.args.config k) × (n ≡ length now.configs))) c.self.view_is
    (next_known was c.args.config c.take_later.new.configs.items c.take_later.result (taken.followed was refl refl c.self.invariant) taken.taken taken.same).0

pub returns-clause-sound : goal.returns-clause-sound
returns-clause-sound c =
    let was : Known = record { configs = c.self.inside.configs.items; founders = c.self.inside.founders; begun = c.self.inside.begun } in
    on_ok _ c.take_later.result (c.take_later.ensures.book was refl refl c.self.invariant).sound

pub returns-clause-refused : goal.returns-clause-refused
returns-clause-refused c =
    let was : Known = record { configs = c.self.inside.configs.items; founders = c.self.inside.founders; begun = c.self.inside.begun } in
    let now : Known = record { configs = c.take_later.new.configs.items; founders = c.self.inside.founders; begun = c.self.inside.begun } in
    let taken = c.take_later.ensures in
    subst (λ (k : Known). IfErr c.take_later.result (λ (u : Unsound). (now ≡ k) × IsUnsoundFor (is_arbitrary k) (trees_of k.configs) c.args.config.tree u)) c.self.view_is
    (next_known was c.args.config c.take_later.new.configs.items c.take_later.result (taken.followed was refl refl c.self.invariant) taken.taken taken.same).1
