use Rattle.std.proofs.Common.{[], ◌∷◌, ◌++◌, List, length, ap, ◌∙◌}
use Rattle.route_json.specs.Configuration.{Configuration}
use Rattle.core_accepted.proofs.Growing.{first_book}
use Rattle.core_accepted.proofs.generations.Generations.first.Goals as goal

pub invariant_of-result : goal.invariant_of-result
invariant_of-result c =
    first_book c.args.accepted.now c.config-config.result.now c.args.begun c.push.new.self.items c.len.result c.config-config.ensures.config c.config-config.ensures.generations
    (c.in_ok-push.ensures.items ∙ ap (λ (l : List Configuration). l ++ c.in_ok-copy.field-0 ∷ []) c.new-configs.ensures.items ∙ ap (λ (k : Configuration). k ∷ []) c.in_ok-copy.ensures)
    (c.len.ensures.len ∙ ap length c.servers.ensures.servers)
