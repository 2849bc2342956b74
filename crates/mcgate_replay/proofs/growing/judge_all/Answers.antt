use Rattle.std.proofs.Common.{◌≡◌, ℕ, ◌+◌, [], List, length, take, inr, sym, ap, ◌∙◌, subst, arith, refl}
use Rattle.std.proofs.Math.Seq.{take-length}
use Rattle.script_events.specs.declared.script.Reload.{Reload}
use Rattle.script_run.specs.declared.accepted.judging.Loading.{Loading}
use Rattle.mcgate_replay.specs.Growing.{JudgesAll, MayNotFollowKnown, IsFew}
use Rattle.mcgate_replay.proofs.Grown.{one_more_judged, held_then}
use Rattle.mcgate_replay.proofs.growing.judge_all.Goals as goal

pub judge_next-requires-clause-held : goal.judge_next-requires-clause-held
judge_next-requires-clause-held c = c.loop-reload.invariant.1

pub judge_next-requires-clause-few : goal.judge_next-requires-clause-few
judge_next-requires-clause-few c = c.loop-reload.invariant.2

pub loop-reload-init : goal.loop-reload-init
loop-reload-init c =
    (subst (λ (ls : List Loading). JudgesAll (MayNotFollowKnown c.args.most) c.args.generations.now [] ls c.args.generations.now) (sym c.new-loadings.ensures.items) refl, sym c.requires, inr refl)

pub loop-reload-preserved : goal.loop-reload-preserved
loop-reload-preserved c =
    let Why = MayNotFollowKnown c.args.most in
    let xs = c.args.reloads.now in
    let i = c.loop-reload.reload-index in
    let r = c.reload-item.result in
    let l = c.in_ok-loading.loading in
    let old = c.loop-reload.generations in
    let new = c.judge_next.new.generations in
    let after = c.held_after-held.ensures in (
      subst (λ (ls : List Loading). JudgesAll Why c.args.generations.now (take (i + 1) xs) ls new) (sym c.in_ok-push.ensures.items)
          (one_more_judged Why c.args.generations.now old new xs i c.loop-reload.loadings.items r l c.loop-reload-test.true c.reload-item.is c.loop-reload.invariant.0 c.in_ok-loading.ensures.judged),
      after ∙ held_then Why old new r l c.loop-reload.held c.in_ok-loading.ensures.judged c.loop-reload.invariant.1,
      subst (IsFew c.args.most) (sym after) c.in_ok-loading.ensures.few,
    )

pub returns-clause-judged : goal.returns-clause-judged
returns-clause-judged c =
    let xs = c.args.reloads.now in
    let all : c.loop-reload.reload-index ≡ length xs = omega arith in
    subst (λ (rs : List Reload). JudgesAll (MayNotFollowKnown c.args.most) c.args.generations.now rs c.loop-reload.loadings.items c.loop-reload.generations) (ap (λ (n : ℕ). take n xs) all ∙ take-length xs) c.loop-reload.invariant.0

pub returns-clause-few : goal.returns-clause-few
returns-clause-few c = subst (IsFew c.args.most) c.loop-reload.invariant.1 c.loop-reload.invariant.2
