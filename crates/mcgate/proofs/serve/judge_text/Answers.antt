use Rattle.std.proofs.Common.{inl}
use Rattle.mcgate.proofs.serve.judge_text.Goals as goal

pub returns-in-Ok : goal.returns-in-Ok
returns-in-Ok g c = inl (c.in-Ok.config, c.in-Ok.ensures, c.take_config.ensures)
