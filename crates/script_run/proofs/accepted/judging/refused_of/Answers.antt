use Rattle.std.proofs.Common.{◌++◌, ◌∷◌, [], List, Bool, sym, ap, ◌∙◌}
use Rattle.script_run.specs.Reloads.{loading_is_refused}
use Rattle.script_run.proofs.Loadings.{refused_more}
use Rattle.script_run.proofs.accepted.judging.refused_of.Goals as goal

pub loop-loading-preserved : goal.loop-loading-preserved
loop-loading-preserved c =
    let so_far = c.loop-loading.refused.items in
    let l = c.loading-item.result in
    c.in_ok-push.ensures.items ∙ ap (λ (b : Bool). so_far ++ b ∷ []) c.is_refused.ensures ∙ ap (λ (bs : List Bool). bs ++ loading_is_refused l ∷ []) c.loop-loading.invariant
    ∙ sym (refused_more c.args.loadings.now c.loop-loading.loading-index l c.loop-loading-test.true c.loading-item.is)
