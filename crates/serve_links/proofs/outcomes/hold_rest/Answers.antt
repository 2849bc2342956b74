use Rattle.std.proofs.Common.{List, ℕ, drop, ap, ◌∙◌}
use Rattle.serve_links.proofs.Held.{rest_fits}
use Rattle.serve_links.proofs.outcomes.hold_rest.Goals as goal

pub hold_again-requires : goal.hold_again-requires
hold_again-requires c = (c.requires.0, rest_fits c.args.used _ _ c.args.front.now _ (c.rest_of.ensures ∙ ap (λ (l : List ℕ). drop c.args.used l) c.as_slice.ensures) c.requires.1)
