use Rattle.std.proofs.Common.{◌≡◌, map, take}
use Rattle.script_run.specs.Reloads.{loading_is_refused}
use Rattle.script_run.proofs.accepted.judging.refused_of.Given as goal

abbrev pub invariant-loop-loading : goal.invariant-loop-loading
invariant-loop-loading l = l.refused.items ≡ map loading_is_refused (take l.loading-index l.loadings)
