use Rattle.fresh_runs.proofs.OverlapReload.{reloads}
use Rattle.fresh_theory.proofs.overlap_laws.overlap_reloads.Goals as goal

pub returns : goal.returns
returns g c log leads = let x = g.C.HasChange.change in reloads x.words x.Bars x.opening x.new x.NewBars log x.now leads x.kept x.kept_bars
