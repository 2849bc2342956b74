use Rattle.std.proofs.Common.{◌+◌, List, [], ◌∷◌, ◌++◌, length, length-append, ap, sym, ◌∙◌, subst}
use Rattle.std.specs.Prelude.{IfOk}
use Rattle.route_json.specs.Configuration.{Configuration}
use Rattle.gate_check.specs.Sound.{trees_of}
use Rattle.mcgate_replay.specs.Growing.{JudgesNext}
use Rattle.mcgate_replay.specs.Pairing.{IsJoinFault, MayNotJoin, AreHeld, known_of_pair}
use Rattle.mcgate_replay.proofs.Paired.{held_pushed, told_join}
use Rattle.mcgate_replay.proofs.pairing.judge_next.Goals as goal

pub next_number-requires : goal.next_number-requires
next_number-requires c = subst (λ (cs : List Configuration). AreHeld c.args.most (trees_of cs)) (sym c.deref.ensures.value) c.requires

pub returns-in_ok-push_copy-in-Ok-clause-judged : goal.returns-in_ok-push_copy-in-Ok-clause-judged
returns-in_ok-push_copy-in-Ok-clause-judged c first =
    let old = c.args.configs.now.items in
    let added = c.in_ok-push_copy-in-Ok.ensures in
    let count = ap (λ (cs : List Configuration). length cs + 1) c.deref.ensures.value in
    (ap (known_of_pair first) added, c.in-Ok.ensures.0 ∙ count ∙ sym (ap length added ∙ length-append old (c.args.reload.now.config ∷ [])))

pub returns-in_ok-push_copy-in-Ok-clause-held : goal.returns-in_ok-push_copy-in-Ok-clause-held
returns-in_ok-push_copy-in-Ok-clause-held c =
    let config = c.args.reload.now.config in
    held_pushed c.args.most c.args.configs.now.items c.push_copy.new.configs.items config c.in_ok-push_copy-in-Ok.ensures
    (subst (λ (cs : List Configuration). AreHeld c.args.most (trees_of cs ++ config.tree ∷ [])) c.deref.ensures.value c.in-Ok.ensures.1)

pub returns-in-Err-clause-judged : goal.returns-in-Err-clause-judged
returns-in-Err-clause-judged c first =
    let r = c.args.reload.now in
    let known = known_of_pair first c.args.configs.now.items in
    subst (λ x. IfOk x (λ l. JudgesNext (MayNotJoin c.args.most) known r l known)) (sym c.ok_or.ensures.value)
    (told_join c.args.most known r c.in-Err.fault c.refusal.result _ c.refusal.ensures
    (subst (λ (cs : List Configuration). IsJoinFault c.args.most (trees_of cs) r.config.tree c.in-Err.fault) c.deref.ensures.value c.in-Err.ensures))
