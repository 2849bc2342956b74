use Rattle.std.proofs.Common.{length, ap, subst}
use Rattle.route_tree.specs.Each.{Each}
use Rattle.route_tree.specs.Route.{IsTree}
use Rattle.gate_check.specs.Sound.{trees_of}
use Rattle.core_accepted.specs.Known.{Known}
use Rattle.mcgate_replay.specs.Growing.{MayNotFollowKnown}
use Rattle.mcgate_replay.specs.Replay.{replayed_events, reloads_of}
use Rattle.mcgate_replay.proofs.Grown.{begun_first, judged_of, begun_followed}
use Rattle.mcgate_replay.proofs.Opens.{holds_begin_so}
use Rattle.mcgate_replay.proofs.running.run_begun.Goals as goal

pub judge_all-requires : goal.judge_all-requires
judge_all-requires g c =
    let first = begun_first c.args.accepted.now c.args.script.now.config c.args.begun c.in_ok-generations.generations c.requires.accepted c.in_ok-generations.ensures in
    ap (λ (k : Known). length k.configs) first

pub run_judged-requires-clause-loadings : goal.run_judged-requires-clause-loadings
run_judged-requires-clause-loadings g c =
    let s = c.args.script.now in
    let first = begun_first c.args.accepted.now s.config c.args.begun c.in_ok-generations.generations c.requires.accepted c.in_ok-generations.ensures in (
      c.requires.certified,
      c.judge_all.new.generations,
      judged_of (MayNotFollowKnown c.args.most) s.config c.args.begun c.in_ok-generations.generations c.judge_all.new.generations _ (reloads_of s) c.in_ok-judged.judged.loadings.items first c.as_slice-reloads.ensures.value c.in_ok-judged.ensures.judged,
      c.in_ok-judged.ensures.few,
      c.config-last.ensures.sound,
    )

pub run_judged-requires-clause-followed : goal.run_judged-requires-clause-followed
run_judged-requires-clause-followed g c =
    let s = c.args.script.now in
    let first = begun_first c.args.accepted.now s.config c.args.begun c.in_ok-generations.generations c.requires.accepted c.in_ok-generations.ensures in
    let tree = (subst (λ (k : Known). Each IsTree (trees_of k.configs)) first c.config-first.ensures.trees).0 in
    begun_followed c.args.most s.config c.args.begun c.judge_all.new.generations (reloads_of s) c.in_ok-judged.judged.loadings.items (replayed_events s)
    (judged_of (MayNotFollowKnown c.args.most) s.config c.args.begun c.in_ok-generations.generations c.judge_all.new.generations _ (reloads_of s) c.in_ok-judged.judged.loadings.items first c.as_slice-reloads.ensures.value c.in_ok-judged.ensures.judged)
    c.config-last.ensures.trees c.config-last.ensures.sound (holds_begin_so c.args.begun s.config (replayed_events s) tree c.requires.holds)
