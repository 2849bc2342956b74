use Rattle.std.proofs.Common.{◌≡◌, ◌∙◌, ◌++◌, ◌∷◌, [], List, ap, sym, subst}
use Rattle.route_json.specs.Configuration.{Configuration}
use Rattle.gate_growth.specs.declared.ledger.page.Beginning.TheVariants.{Own}
use Rattle.gate_history.specs.declared.generation.Generation.{Generation}
use Rattle.gate_history.specs.Remembering.{idle, AllLeft}
use Rattle.gate_history.proofs.remembered.remembered.Goals as goal

pub returns-clause-remembered : goal.returns-clause-remembered
returns-clause-remembered c =
    let gs = c.args.history in
    let servers = c.args.servers.now in
    let with_idle : c.in_ok-idle.idle ≡ c.history.inside.generations.items ++ record { config = c.in_ok-null_config.field-0; began = Own } ∷ [] = c.in_ok-idle.ensures.with in
    let after : c.in_ok-idle.idle ≡ gs ++ idle servers ∷ [] = with_idle ∙ ap (λ (l : List Generation). l ++ record { config = c.in_ok-null_config.field-0; began = Own } ∷ []) c.history.view_is ∙ ap (λ (k : Configuration). gs ++ record { config = k; began = Own } ∷ []) c.in_ok-null_config.ensures in
    c.in_ok-all_remembered.ensures.remembered gs servers (subst (AllLeft gs servers) (sym c.deref.ensures.value) c.in_ok-now.ensures.left)
    (subst (AllLeft (gs ++ idle servers ∷ []) servers) (sym c.deref-2.ensures.value) (subst (λ (l : List Generation). AllLeft l servers c.in_ok-later.later.items) after c.in_ok-later.ensures.left))
