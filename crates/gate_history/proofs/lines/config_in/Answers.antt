use Rattle.std.proofs.Common.{◌∙◌, ◌++◌, List, ℕ, ap, arith, codes}
use Rattle.std.proofs.lemmas.Str.Pattern.{strip_suffix_char}
use Rattle.route_json.specs.Names.{rest_after}
use Rattle.gate_history.specs.Spelled.{head_of}
use Rattle.gate_history.proofs.Fronts.{after_some, after_none, between}
use Rattle.gate_history.proofs.lines.config_in.Goals as goal

pub returns-in-None : goal.returns-in-None
returns-in-None c = λ config.
    after_none (head_of c.args.generation c.args.began) c.args.body.now (config ++ codes "}")
    (c.in-None.ensures ∙ ap (λ (t : List ℕ). rest_after t c.args.body.now) (c.as_str.ensures.value ∙ c.in_ok-head.ensures))

pub returns : goal.returns
returns c =
    between (head_of c.args.generation c.args.began) c.args.body.now c.in-Some.rest.now 125 c.strip_suffix.result
    (after_some (head_of c.args.generation c.args.began) c.args.body.now c.in-Some.rest.now (c.in-Some.ensures ∙ ap (λ (t : List ℕ). rest_after t c.args.body.now) (c.as_str.ensures.value ∙ c.in_ok-head.ensures)))
    (strip_suffix_char 125 c.in-Some.rest.now c.strip_suffix.result c.strip_suffix.ensures.cases (omega arith))
