use Rattle.std.proofs.Common.{◌≡◌, ℕ, ◌+◌, List, [], length, take, sym, ap, ◌∙◌, subst, arith}
use Rattle.std.proofs.Math.Seq.{take-length}
use Rattle.route_json.specs.Configuration.{Configuration}
use Rattle.core_accepted.specs.Begun.{any_begun}
use Rattle.core_accepted.specs.Known.{first_of}
use Rattle.gate_check.specs.Sound.{trees_of}
use Rattle.script_events.specs.declared.script.Reload.{Reload}
use Rattle.script_run.specs.declared.accepted.judging.Loading.{Loading}
use Rattle.mcgate_replay.specs.Growing.{JudgesAll}
use Rattle.mcgate_replay.specs.Pairing.{MayNotJoin, AreHeld, known_of_pair}
use Rattle.mcgate_replay.proofs.Grown.{one_more_judged}
use Rattle.mcgate_replay.proofs.Paired.{held_at_first}
use Rattle.mcgate_replay.proofs.pairing.judge_pairs.Goals as goal

pub judge_next-requires : goal.judge_next-requires
judge_next-requires c = c.loop-reload.invariant.1

pub loop-reload-init : goal.loop-reload-init
loop-reload-init c =
    let first = c.args.first.now in
    let configs = c.in_ok-configs.configs.items in (
      subst (λ (ls : List Loading). JudgesAll (MayNotJoin c.args.most) (first_of first any_begun) [] ls (known_of_pair first configs)) (sym c.new-loadings.ensures.items) (held_at_first first configs c.in_ok-configs.ensures),
      subst (λ (cs : List Configuration). AreHeld c.args.most (trees_of cs)) (sym c.in_ok-configs.ensures) c.requires,
    )

pub loop-reload-preserved : goal.loop-reload-preserved
loop-reload-preserved c =
    let first = c.args.first.now in
    let start = first_of first any_begun in
    let xs = c.args.reloads.now in
    let i = c.loop-reload.reload-index in
    let r = c.reload-item.result in
    let l = c.in_ok-judge_next.field-0 in
    let mid = known_of_pair first c.loop-reload.configs.items in
    let new = known_of_pair first c.judge_next.new.configs.items in (
      subst (λ (ls : List Loading). JudgesAll (MayNotJoin c.args.most) start (take (i + 1) xs) ls new) (sym {A = List Loading} c.in_ok-push.ensures.items)
          (one_more_judged (MayNotJoin c.args.most) start mid new xs i c.loop-reload.loadings.items r l c.loop-reload-test.true c.reload-item.is c.loop-reload.invariant.0 (c.in_ok-judge_next.ensures.judged first)),
      c.in_ok-judge_next.ensures.held,
    )

pub returns-clause-judged : goal.returns-clause-judged
returns-clause-judged c =
    let first = c.args.first.now in
    let xs = c.args.reloads.now in
    let all : c.loop-reload.reload-index ≡ length xs = omega arith in
    let held = known_of_pair first c.loop-reload.configs.items in (
      held,
      subst (λ (rs : List Reload). JudgesAll (MayNotJoin c.args.most) (first_of first any_begun) rs c.loop-reload.loadings.items held) (ap (λ (n : ℕ). take n xs) all ∙ take-length xs) c.loop-reload.invariant.0,
      c.loop-reload.invariant.1,
    )
