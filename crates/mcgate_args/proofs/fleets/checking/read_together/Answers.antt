use Rattle.std.proofs.Common.{◌≡◌, ℕ, ◌++◌, ◌<◌, ◌∙◌, List, length, ap, sym, subst}
use Rattle.route_json.specs.Configuration.{Configuration}
use Rattle.gate_check.specs.declared.reloading.TheConstants.{MOST_GENERATIONS}
use Rattle.mcgate_args.proofs.FleetVerdicts.{read_length}
use Rattle.mcgate_args.proofs.fleets.checking.read_together.Goals as goal

pub judge_together-requires-clause-few : goal.judge_together-requires-clause-few
judge_together-requires-clause-few g c =
    let h = c.in-Ok.ensures in
    let all : length c.deref.result.now ≡ length h.0 = ap length (c.deref.ensures.value ∙ h.1 ∙ ap (λ (l : List Configuration). l ++ h.0) c.new-configs.ensures.items) in
    subst (λ (n : ℕ). n < MOST_GENERATIONS) (sym (all ∙ read_length c.new.result c.args.files.now h.0 h.2)) c.requires
