use Rattle.fresh_runs.proofs.OverlapRuns.{streams}
use Rattle.fresh_theory.proofs.overlap_laws.overlap_reads_streams.Goals as goal

pub returns : goal.returns
returns g c = streams g.S.SharedSetting.protocol g.S.SharedSetting.words g.S.SharedSetting.bars g.S.SharedSetting.opening
