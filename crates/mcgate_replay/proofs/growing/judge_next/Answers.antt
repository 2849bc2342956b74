use Rattle.std.proofs.Common.{◌≡◌, ◌+◌, [], ◌∷◌, length, length-append, inl, refl, ap, sym, ◌∙◌, subst, arith}
use Rattle.std.specs.Prelude.{IfOk}
use Rattle.route_json.specs.Configuration.{Configuration}
use Rattle.gate_check.specs.Sound.{trees_of}
use Rattle.gate_check.proofs.Following.{length_trees}
use Rattle.gate_growth.specs.Ledgers.{IsUnsoundFor}
use Rattle.core_accepted.specs.Known.{Known, is_arbitrary, more}
use Rattle.mcgate_replay.specs.Growing.{JudgesNext, MayNotFollowKnown, IsFew, held_after}
use Rattle.mcgate_replay.proofs.Grown.{told_refused, few_told}
use Rattle.mcgate_replay.proofs.growing.judge_next.Goals as goal

pub returns-then-held-most-clause-judged : goal.returns-then-held-most-clause-judged
returns-then-held-most-clause-judged c = let len = length_trees c.args.generations.now.configs in let held = c.requires.held in (refl, omega (arith, len, held))

pub returns-in-Ok-clause-judged : goal.returns-in-Ok-clause-judged
returns-in-Ok-clause-judged c =
    let followed = c.in-Ok.ensures.followed in
    (followed.0 ∙ ap (λ (x : Configuration). more x c.args.generations.now) c.in_ok-config.ensures, followed.1)

pub returns-in-Ok-clause-few : goal.returns-in-Ok-clause-few
returns-in-Ok-clause-few c =
    let old = c.args.generations.now in
    let followed = c.in-Ok.ensures.followed in
    let number = followed.1 in
    let held = c.requires.held in
    let len : length c.follow.new.self.configs ≡ length old.configs + 1 = ap (λ (k : Known). length k.configs) followed.0 ∙ length-append old.configs (_ ∷ []) in
    inl (omega (arith, number, held, len))

pub returns-in-Err-clause-judged : goal.returns-in-Err-clause-judged
returns-in-Err-clause-judged c =
    let old = c.args.generations.now in
    let unsound = c.in-Err.unsound in
    let refused = c.in-Err.ensures.refused in
    subst (λ x. IfOk x (λ l. JudgesNext (MayNotFollowKnown c.args.most) old c.args.reload.now l c.follow.new.self)) (sym c.ok_or.ensures.value)
    (told_refused c.args.most old c.follow.new.self c.args.reload.now unsound c.refusal.result _ (omega arith) c.refusal.ensures (refused.0, subst (λ (x : Configuration). IsUnsoundFor (is_arbitrary old) (trees_of old.configs) x.tree unsound) c.in_ok-config.ensures refused.1))

pub returns-in-Err-clause-few : goal.returns-in-Err-clause-few
returns-in-Err-clause-few c =
    subst (λ x. IfOk x (λ l. IsFew c.args.most (held_after c.args.held l))) (sym c.ok_or.ensures.value)
    (few_told c.args.most c.args.held c.in-Err.unsound c.refusal.result _ c.refusal.ensures c.requires.few)
