use Rattle.std.proofs.Common.{List, subst}
use Rattle.script_events.specs.declared.script.Reload.{Reload}
use Rattle.mcgate_replay.specs.Pairing.{ArePaired}
use Rattle.mcgate_replay.specs.Replay.{replayed_events, reloads_of}
use Rattle.mcgate_replay.proofs.Paired.{held_first, paired_followed}
use Rattle.mcgate_replay.proofs.running.run_accepted.Goals as goal

pub judge_pairs-requires : goal.judge_pairs-requires
judge_pairs-requires g c = held_first c.args.most c.args.accepted.now c.args.script.now.config c.requires.accepted c.config-first.ensures.generations

pub run_judged-requires-clause-loadings : goal.run_judged-requires-clause-loadings
run_judged-requires-clause-loadings g c =
    let s = c.args.script.now in
    (c.requires.certified, subst (λ (rs : List Reload). ArePaired c.args.most s.config rs c.in_ok-judged.judged.loadings.items) c.as_slice-reloads.ensures.value c.in_ok-judged.ensures.judged)

pub run_judged-requires-clause-followed : goal.run_judged-requires-clause-followed
run_judged-requires-clause-followed g c =
    let s = c.args.script.now in
    paired_followed c.args.most s.config (reloads_of s) c.in_ok-judged.judged.loadings.items (replayed_events s)
    (subst (λ (rs : List Reload). ArePaired c.args.most s.config rs c.in_ok-judged.judged.loadings.items) c.as_slice-reloads.ensures.value c.in_ok-judged.ensures.judged)
